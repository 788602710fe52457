-- Steps, blocks and scripts: the tree that they stand for.
use Rattle.std.specs.Prelude.{ℕ, zero, suc, ◌+◌, Bool, true, false, cond, ℤ, pos, neg_ℤ, Some, None, Ok, Err, Option, Result, nat_lt}
use Rattle.atoms.specs.Sets.{every}
use Rattle.automata.specs.declared.Fault.{Fault}
use Rattle.automata.specs.declared.Fault.TheVariants.{NoMeasure, TooDeep, TooManySteps}
use Rattle.labels.specs.declared.Kind.{Kind}
use Rattle.labels.specs.declared.Order.{Order}
use Rattle.labels.specs.declared.Verb.{Verb as OrderVerb}
use Rattle.labels.specs.Kinds.{has_measure}
use Rattle.script.specs.Trees.{Tree, ordered, tested, joined, branched, guarded, looped, steps}
use Rattle.script.specs.Lists.{most_steps}
use Rattle.tokens.specs.declared.Mark.TheVariants.{OpenBrace, CloseBrace, CloseBracket, Semicolon, Minus}
use Rattle.tokens.specs.Streams.{Stream, begins, past, by_place, past_by, begins_else, past_else, expected, expected_p, expected_number}
use Rattle.reading.specs.declared.First.{First}
use Rattle.reading.specs.declared.First.TheVariants.{Plain, If, While}
use Rattle.reading.specs.declared.Leaf.{Leaf}
use Rattle.reading.specs.declared.Leaf.TheVariants.{Verb, Test, Skip, Stop}
use Rattle.conditions.specs.Outcomes.{Out, bind, chain}
use Rattle.reading.specs.Firsts.{first_of}
use Rattle.conditions.specs.Conditions.{cond_at}

-- a minus applies to picas and points both
abbrev pub signed_by : Bool → ℕ → ℤ
signed_by true v = neg_ℤ (pos v)
signed_by false v = pos v

-- an order of a verb, with picas and points of one sign
abbrev pub order_of : OrderVerb → Bool → ℕ → ℕ → Order
order_of v minus a b = record { verb = v; picas = signed_by minus a; points = signed_by minus b }

-- what follows a word, or its fault
abbrev pub then_on : {A : Type 0} → Result Stream Fault → (Stream → Out A) → Out A
then_on (Ok s) f = f s
then_on (Err e) f = Err e

-- the word `p`, and what follows
abbrev pub then_p : {A : Type 0} → Stream → (Stream → Out A) → Out A
then_p s f = then_on (expected_p s) f

-- [ - ] number p number
abbrev pub amount_of : OrderVerb → Bool → Stream → Out Order
amount_of v minus s = bind (expected_number s) (λ a r. then_p r (λ q. bind (expected_number q) (λ b u. Ok (order_of v minus a b, u))))

-- what follows a verb, by the place of `by`
abbrev pub measure_on : Kind → OrderVerb → Stream → Option ℕ → Out Order
measure_on k v s None = Ok (order_of v false 0 0, s)
measure_on k v s (Some p) = cond (has_measure k) (amount_of v (begins Minus (past_by s)) (past Minus (past_by s))) (Err (NoMeasure p))

-- after a verb: [ by [ - ] number p number ], where the kind takes a measure; without it the measure is 0
abbrev pub measure_of : Kind → OrderVerb → Stream → Out Order
measure_of k v s = measure_on k v s (by_place s)

-- a step without a block
abbrev pub plain_of : Kind → ℕ → Leaf → Stream → Out Tree
plain_of k d (Verb v) s = bind (measure_of k v s) (λ o r. Ok (ordered o, r))
plain_of k d Test s = bind (cond_at d s) (λ x r. bind (expected CloseBracket r) (λ p q. Ok (tested x, q)))
plain_of k d Skip s = Ok (tested every, s)
plain_of k d Stop s = Ok (tested 0, s)

-- `if` with n steps counted: a block, and another after `else`
abbrev pub if_of : (ℕ → Stream → Out Tree) → ℕ → ℕ → Stream → Out Tree
if_of block n x s =
    bind (block n s) (λ t r. cond (begins_else r) (bind (block (n + steps t) (past_else r)) (λ u q. Ok (branched x t u, q))) (Ok (guarded x t, r)))

-- `while` with n steps counted: a block
abbrev pub while_of : (ℕ → Stream → Out Tree) → ℕ → ℕ → Stream → Out Tree
while_of block n x s = bind (block n s) (λ t r. Ok (looped x t, r))

-- a step that is counted, by its first token
abbrev pub step_on : Kind → ℕ → (ℕ → Stream → Out Tree) → ℕ → First → Stream → Out Tree
step_on k d block n (Plain l) s = plain_of k d l s
step_on k d block n If s = bind (cond_at d s) (if_of block n)
step_on k d block n While s = bind (cond_at d s) (while_of block n)

-- a step, where n are counted before it: it is counted at its first token
abbrev pub step_of : Kind → ℕ → (ℕ → Stream → Out Tree) → ℕ → Stream → Out Tree
step_of k d block n s =
    bind (first_of s) (λ x r. cond (nat_lt n most_steps) (step_on k d block (n + 1) x.1 r) (Err (TooManySteps x.0)))

-- one step more behind those of a tree
abbrev pub next_step : (ℕ → Stream → Out Tree) → ℕ → Tree → Stream → Out Tree
next_step step n t s = bind (step (n + steps t) s) (λ u r. Ok (joined t u, r))

-- script: step { ; step }
abbrev pub script_of : (ℕ → Stream → Out Tree) → ℕ → Stream → Out Tree
script_of step n s = bind (step n s) (chain Semicolon (next_step step n))

-- the closing bracket of a block
abbrev pub close_block : Tree → Stream → Out Tree
close_block t s = bind (expected CloseBrace s) (λ p r. Ok (t, r))

-- block: { script }; it opens a level, of which so many are left
unfoldable pub block_at : Kind → ℕ → ℕ → Stream → Out Tree
block_at k zero n s = bind (expected OpenBrace s) (λ p r. Err (TooDeep p))
block_at k (suc d) n s = bind (expected OpenBrace s) (λ p r. bind (script_of (step_of k d (block_at k d)) n r) close_block)

-- a step and a script with so many levels left
abbrev pub step_at : Kind → ℕ → ℕ → Stream → Out Tree
step_at k d = step_of k d (block_at k d)

-- a script with so many levels left
abbrev pub script_at : Kind → ℕ → ℕ → Stream → Out Tree
script_at k d = script_of (step_at k d)
