-- Conditions: the set of atoms that a condition stands for.
use Rattle.std.specs.Prelude.{◌≡◌, ◌≤◌, ℕ, zero, suc, ◌-◌, Ok, Err, Result, bit_and, bit_or}
use Rattle.std.specs.Borrow.{MutBor}
use Rattle.atoms.specs.declared.AtomSet.{AtomSet}
use Rattle.atoms.specs.Sets.{every}
use Rattle.automata.specs.declared.Fault.{Fault}
use Rattle.automata.specs.declared.Fault.TheVariants.{TooDeep}
use Rattle.tokens.specs.declared.Mark.{Mark}
use Rattle.tokens.specs.declared.lent.Reader.{Reader}
use Rattle.tokens.specs.declared.Mark.TheVariants.{CloseParen, And, Or}
use Rattle.tokens.specs.Streams.{Stream, left, ahead, expected}
use Rattle.conditions.specs.declared.Operand.{Operand}
use Rattle.conditions.specs.declared.Operand.TheVariants.{Set, Not, Group}
use Rattle.conditions.specs.Outcomes.{Out, bind, chain}
use Rattle.conditions.specs.Operands.{operand_of}

-- a set is the operand itself; `!` and `(` at a place go on
abbrev pub operand_on : (ℕ → Stream → Out ℕ) → (ℕ → Stream → Out ℕ) → Operand → Stream → Out ℕ
operand_on neg group (Set x) s = Ok (x.bits, s)
operand_on neg group (Not p) s = neg p s
operand_on neg group (Group p) s = group p s

-- one part more, joined to what went before by op
abbrev pub add_part : (Stream → Out ℕ) → (ℕ → ℕ → ℕ) → ℕ → Stream → Out ℕ
add_part part op x s = bind (part s) (λ y r. Ok (op x y, r))

-- part { mark part }, joined from the left by op
abbrev pub joined_of : Mark → (Stream → Out ℕ) → (ℕ → ℕ → ℕ) → Stream → Out ℕ
joined_of m part op s = bind (part s) (chain m (add_part part op))

-- one factor more: the atoms of both
abbrev pub and_part : (Stream → Out ℕ) → ℕ → Stream → Out ℕ
and_part factor x s = bind (factor s) (λ y r. Ok (bit_and x y, r))

-- term: factor { & factor }
abbrev pub term_of : (Stream → Out ℕ) → Stream → Out ℕ
term_of factor s = bind (factor s) (chain And (and_part factor))

-- one term more: the atoms of either
abbrev pub or_part : (Stream → Out ℕ) → ℕ → Stream → Out ℕ
or_part term x s = bind (term s) (λ y r. Ok (bit_or x y, r))

-- cond: term { | term }
abbrev pub cond_of : (Stream → Out ℕ) → Stream → Out ℕ
cond_of factor s = bind (term_of factor s) (chain Or (or_part (term_of factor)))

-- the closing bracket of a group
abbrev pub close_group : ℕ → Stream → Out ℕ
close_group x s = bind (expected CloseParen s) (λ p r. Ok (x, r))

-- factor: ! factor, ( cond ), a test, 0 or 1; `!` and `(` open a level, of which so many are left
unfoldable pub factor_at : ℕ → Stream → Out ℕ
factor_at zero s = bind (operand_of s) (operand_on (λ p r. Err (TooDeep p)) (λ p r. Err (TooDeep p)))
factor_at (suc d) s =
    bind (operand_of s) (operand_on (λ p r. bind (factor_at d r) (λ x q. Ok (every - x, q))) (λ p r. bind (cond_of (factor_at d) r) close_group))

-- a condition with so many levels left
abbrev pub cond_at : ℕ → Stream → Out ℕ
cond_at d s = cond_of (factor_at d) s

-- the outcome of a condition, and what is left
abbrev pub Told : Out ℕ → Result AtomSet Fault → Stream → Type 0
Told o (Ok x) rest = o ≡ Ok (x.bits, rest)
Told o (Err f) rest = o ≡ Err f

-- each call of a part at a reader, as `gives` relates it, comes to what p says of the tokens left
abbrev pub Reads : (MutBor Reader → Result AtomSet Fault → MutBor Reader → Type 0) → (Stream → Out ℕ) → Type 0
Reads gives p = (r : MutBor Reader) (x : Result AtomSet Fault) (q : MutBor Reader) → gives r x q → Told (p (left r.now)) x (left q.now)

-- a call of a part that succeeds takes its tokens from the front
abbrev pub Shortens : (MutBor Reader → Result AtomSet Fault → MutBor Reader → Type 0) → Type 0
Shortens gives = (r q : MutBor Reader) (x : AtomSet) → gives r (Ok x) q → ahead (left q.now) ≤ ahead (left r.now)

-- each call of a join of two sets, as `gives` relates it, gives the set of op
abbrev pub Joins : (AtomSet → AtomSet → AtomSet → Type 0) → (ℕ → ℕ → ℕ) → Type 0
Joins gives op = (a b c : AtomSet) → gives a b c → c.bits ≡ op a.bits b.bits
