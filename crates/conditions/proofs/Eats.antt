-- Every part of the grammar takes its tokens from the front.
use Rattle.std.proofs.Common.{◌≡◌, ℕ, zero, suc, ◌+◌, ◌-◌, ◌≤◌, Bool, true, false, cond, eqb, Ok, Err, arith}
use lib.Bits.{bit_and, bit_or}
use Rattle.atoms.specs.Sets.{every}
use Rattle.automata.specs.declared.Fault.TheVariants.{Unexpected, TooDeep}
use Rattle.tokens.specs.declared.Mark.{Mark as Sign}
use Rattle.tokens.specs.declared.Mark.TheVariants.{OpenParen, CloseParen, Not, And, Or}
use Rattle.words.specs.declared.Word.TheVariants.{Test}
use Rattle.tokens.specs.Classes.{same_mark}
use Rattle.tokens.specs.Streams.{Stream, word, number, mark, ahead, expected}
use Rattle.conditions.specs.declared.Operand.{Operand}
use Rattle.conditions.specs.declared.Operand.TheVariants as operand
use Rattle.conditions.specs.Outcomes.{Out, bind, chain, Eats}
use Rattle.conditions.specs.Operands.{operand_of}
use Rattle.conditions.specs.Conditions.{operand_on, add_part, joined_of, term_of, cond_of, close_group, factor_at}
use Rattle.conditions.proofs.Chains.{keep, refuse, taken, bind_eats, chain_eats}

pub expected_eats : (m : Sign) → Eats (expected m)
expected_eats m (mark p n s) x q e = by (same_mark m n) e
  where
    by : (b : Bool) → cond {A = Out ℕ} b (Ok (p, s)) (Err (Unexpected p)) ≡ Ok (x, q) → ahead q ≤ 1 + ahead s
    by true e = taken p s (mark p n s) (omega arith) x q e
    by false e = cc
expected_eats m _ x q e = cc

pub operand_eats : Eats operand_of
operand_eats (word p (Test t) s) x q e = taken _ s (word p (Test t) s) (omega arith) x q e
operand_eats (number p v s) x q e = by (eqb v 0) (eqb v 1) e
  where
    by : (b d : Bool) → cond {A = Out Operand} b (Ok (operand.Set (record { bits = 0 }), s)) (cond d (Ok (operand.Set (record { bits = every }), s)) (Err (Unexpected p))) ≡ Ok (x, q) → ahead q ≤ 1 + ahead s
    by true d e = taken _ s (number p v s) (omega arith) x q e
    by false true e = taken _ s (number p v s) (omega arith) x q e
    by false false e = cc
operand_eats (mark p OpenParen s) x q e = taken _ s (mark p OpenParen s) (omega arith) x q e
operand_eats (mark p Not s) x q e = taken _ s (mark p Not s) (omega arith) x q e
operand_eats _ x q e = cc

-- parts joined by a mark
module _ (part : Stream → Out ℕ) (eats : Eats part) (op : ℕ → ℕ → ℕ) where
  pub add_eats : (x : ℕ) → Eats (add_part part op x)
  add_eats x s y q e = bind_eats (part s) (λ v r. Ok (op x v, r)) s (eats s) (λ v. keep (op x v)) y q e

  pub joined_eats : (m : Sign) → Eats (joined_of m part op)
  joined_eats m s y q e = bind_eats (part s) (chain m (add_part part op)) s (eats s) (chain_eats m (add_part part op) add_eats) y q e

pub term_eats : (factor : Stream → Out ℕ) → Eats factor → Eats (term_of factor)
term_eats factor eats = joined_eats factor eats bit_and And

pub cond_eats : (factor : Stream → Out ℕ) → Eats factor → Eats (cond_of factor)
cond_eats factor eats = joined_eats (term_of factor) (term_eats factor eats) bit_or Or

close_eats : (x : ℕ) → Eats (close_group x)
close_eats x s y q e = bind_eats (expected CloseParen s) (λ p r. Ok (x, r)) s (expected_eats CloseParen s) (λ p. keep x) y q e

on_eats : (neg group : ℕ → Stream → Out ℕ) → ((p : ℕ) → Eats (neg p)) → ((p : ℕ) → Eats (group p)) → (o : Operand) → Eats (operand_on neg group o)
on_eats neg group n g (operand.Set x) = keep x.bits
on_eats neg group n g (operand.Not p) = n p
on_eats neg group n g (operand.Group p) = g p

pub factor_eats : (d : ℕ) → Eats (factor_at d)
unfolding factor_at
factor_eats zero s y q e = bind_eats (operand_of s) _ s (operand_eats s) (on_eats _ _ (λ p. refuse (TooDeep p)) (λ p. refuse (TooDeep p))) y q e
factor_eats (suc d) s y q e =
    bind_eats (operand_of s) _ s (operand_eats s)
    (on_eats (λ p r. bind (factor_at d r) (λ x q. Ok (every - x, q))) (λ p r. bind (cond_of (factor_at d) r) close_group)
    (λ p r y q e. bind_eats (factor_at d r) (λ x q. Ok (every - x, q)) r (factor_eats d r) (λ x. keep (every - x)) y q e)
    (λ p r y q e. bind_eats (cond_of (factor_at d) r) close_group r (cond_eats (factor_at d) (factor_eats d) r) close_eats y q e))
    y q e
