-- Steps, blocks and scripts take their tokens from the front.
use Rattle.std.proofs.Common.{◌≡◌, ℕ, zero, suc, ◌+◌, ◌≤◌, Bool, true, false, cond, ltb, Some, None, Ok, Err, Option, Result, refl, arith}
use Rattle.atoms.specs.Sets.{every}
use Rattle.automata.specs.declared.Fault.{Fault}
use Rattle.automata.specs.declared.Fault.TheVariants.{Unexpected, NoMeasure, TooDeep, TooManySteps}
use Rattle.labels.specs.declared.Kind.{Kind}
use Rattle.labels.specs.declared.Verb.{Verb as OrderVerb}
use Rattle.labels.specs.Kinds.{has_measure}
use Rattle.script.specs.Trees.{Tree, ordered, tested, joined, branched, guarded, looped, steps}
use Rattle.script.specs.Lists.{most_steps}
use Rattle.tokens.specs.declared.Mark.TheVariants.{OpenBrace, CloseBrace, OpenParen, CloseParen, OpenBracket, CloseBracket, Semicolon, Not, And, Or, Minus}
use Rattle.words.specs.declared.Word.TheVariants.{Test, Verb, If, Else, While, Skip, Stop, By, P}
use Rattle.tokens.specs.Streams.{Stream, end, bad, word, number, mark, ahead, begins, past, by_place, past_by, begins_else, past_else, expected, expected_p, expected_number}
use Rattle.tokens.proofs.Ahead.{ahead_past_by, ahead_past_else, ahead_expected_number, ahead_expected_p}
use Rattle.reading.specs.declared.First.{First}
use Rattle.reading.specs.declared.First.TheVariants as first
use Rattle.reading.specs.declared.Leaf.{Leaf}
use Rattle.reading.specs.declared.Leaf.TheVariants as leaf
use Rattle.conditions.specs.Outcomes.{Out, bind, chain}
use Rattle.reading.specs.Firsts.{first_of}
use Rattle.conditions.specs.Conditions.{cond_at, factor_at}
use Rattle.reading.specs.Steps.{order_of, then_on, then_p, amount_of, measure_on, measure_of, plain_of, if_of, while_of, step_on, step_of, next_step, script_of, close_block, block_at, step_at}
use Rattle.conditions.proofs.Chains.{Eats, keep, refuse, taken, bind_eats, chain_eats, past_le}
use Rattle.conditions.proofs.Eats.{expected_eats, cond_eats, factor_eats}

pub first_eats : Eats first_of
first_eats (end p) x q e = refuse (Unexpected p) (end p) x q e
first_eats (bad f) x q e = refuse f (bad f) x q e
first_eats (word p (Test t) s) x q e = refuse (Unexpected p) (word p (Test t) s) x q e
first_eats (word p (Verb v) s) x q e = taken _ s (word p (Verb v) s) (omega arith) x q e
first_eats (word p If s) x q e = taken _ s (word p If s) (omega arith) x q e
first_eats (word p Else s) x q e = refuse (Unexpected p) (word p Else s) x q e
first_eats (word p While s) x q e = taken _ s (word p While s) (omega arith) x q e
first_eats (word p Skip s) x q e = taken _ s (word p Skip s) (omega arith) x q e
first_eats (word p Stop s) x q e = taken _ s (word p Stop s) (omega arith) x q e
first_eats (word p By s) x q e = refuse (Unexpected p) (word p By s) x q e
first_eats (word p P s) x q e = refuse (Unexpected p) (word p P s) x q e
first_eats (number p v s) x q e = refuse (Unexpected p) (number p v s) x q e
first_eats (mark p OpenBrace s) x q e = refuse (Unexpected p) (mark p OpenBrace s) x q e
first_eats (mark p CloseBrace s) x q e = refuse (Unexpected p) (mark p CloseBrace s) x q e
first_eats (mark p OpenParen s) x q e = refuse (Unexpected p) (mark p OpenParen s) x q e
first_eats (mark p CloseParen s) x q e = refuse (Unexpected p) (mark p CloseParen s) x q e
first_eats (mark p OpenBracket s) x q e = taken _ s (mark p OpenBracket s) (omega arith) x q e
first_eats (mark p CloseBracket s) x q e = refuse (Unexpected p) (mark p CloseBracket s) x q e
first_eats (mark p Semicolon s) x q e = refuse (Unexpected p) (mark p Semicolon s) x q e
first_eats (mark p Not s) x q e = refuse (Unexpected p) (mark p Not s) x q e
first_eats (mark p And s) x q e = refuse (Unexpected p) (mark p And s) x q e
first_eats (mark p Or s) x q e = refuse (Unexpected p) (mark p Or s) x q e
first_eats (mark p Minus s) x q e = refuse (Unexpected p) (mark p Minus s) x q e

number_eats : Eats expected_number
number_eats s v q e = let a = ahead_expected_number s v q e in omega arith

then_eats : {A : Type 0} (o : Result Stream Fault) (f : Stream → Out A) (s : Stream) → ((q : Stream) → o ≡ Ok q → ahead q ≤ ahead s) → Eats f
    → (y : A) (q : Stream) → then_on o f ≡ Ok (y, q) → ahead q ≤ ahead s
then_eats (Ok r) f s h g y q e = let a = h r refl in let b = g r y q e in omega arith
then_eats (Err x) f s h g y q e = refuse x s y q e

p_eats : {A : Type 0} (f : Stream → Out A) → Eats f → Eats (λ s. then_p s f)
p_eats f g s y q e = then_eats (expected_p s) f s (λ r h. let a = ahead_expected_p s r h in omega arith) g y q e

amount_eats : (v : OrderVerb) (minus : Bool) → Eats (amount_of v minus)
amount_eats v minus s y q e =
    bind_eats (expected_number s) _ s (number_eats s)
    (λ a. p_eats (λ q. bind (expected_number q) (λ b u. Ok (order_of v minus a b, u))) (λ r y q e. bind_eats (expected_number r) _ r (number_eats r) (λ b. keep (order_of v minus a b)) y q e))
    y q e

measure_eats : (k : Kind) (v : OrderVerb) → Eats (measure_of k v)
measure_eats k v s y q e = by (by_place s) refl e
  where
    taking : (b : Bool) (p : ℕ) → by_place s ≡ Some p → cond b (amount_of v (begins Minus (past_by s)) (past Minus (past_by s))) (Err (NoMeasure p)) ≡ Ok (y, q) → ahead q ≤ ahead s
    taking true p h e =
        let a = ahead_past_by s p h in let b = past_le Minus (past_by s) in
        let c = amount_eats v (begins Minus (past_by s)) (past Minus (past_by s)) y q e in
        omega arith
    taking false p h e = refuse (NoMeasure p) s y q e

    by : (o : Option ℕ) → by_place s ≡ o → measure_on k v s o ≡ Ok (y, q) → ahead q ≤ ahead s
    by None h e = keep (order_of v false 0 0) s y q e
    by (Some p) h e = taking (has_measure k) p h e

plain_eats : (k : Kind) (d : ℕ) (l : Leaf) → Eats (plain_of k d l)
plain_eats k d (leaf.Verb v) s y q e = bind_eats (measure_of k v s) _ s (measure_eats k v s) (λ o. keep (ordered o)) y q e
plain_eats k d leaf.Test s y q e =
    bind_eats (cond_at d s) _ s (cond_eats (factor_at d) (factor_eats d) s)
    (λ x r y q e. bind_eats (expected CloseBracket r) _ r (expected_eats CloseBracket r) (λ p. keep (tested x)) y q e) y q e
plain_eats k d leaf.Skip s y q e = keep (tested every) s y q e
plain_eats k d leaf.Stop s y q e = keep (tested 0) s y q e

module _ (k : Kind) (d : ℕ) (block : ℕ → Stream → Out Tree) (eats : (n : ℕ) → Eats (block n)) where
  else_eats : (n x : ℕ) (t : Tree) → Eats (λ r. cond (begins_else r) (bind (block (n + steps t) (past_else r)) (λ u q. Ok (branched x t u, q))) (Ok (guarded x t, r)))
  else_eats n x t r y q e = by (begins_else r) refl e
    where
      by : (b : Bool) → begins_else r ≡ b → cond b (bind (block (n + steps t) (past_else r)) (λ u q. Ok (branched x t u, q))) (Ok (guarded x t, r)) ≡ Ok (y, q) → ahead q ≤ ahead r
      by true h e =
          let a = ahead_past_else r h in
          let c = bind_eats (block (n + steps t) (past_else r)) (λ u q. Ok (branched x t u, q)) (past_else r) (eats (n + steps t) (past_else r)) (λ u. keep (branched x t u)) y q e in
          omega arith
      by false h e = keep (guarded x t) r y q e

  if_eats : (n x : ℕ) → Eats (if_of block n x)
  if_eats n x s y q e = bind_eats (block n s) _ s (eats n s) (else_eats n x) y q e

  while_eats : (n x : ℕ) → Eats (while_of block n x)
  while_eats n x s y q e = bind_eats (block n s) _ s (eats n s) (λ t. keep (looped x t)) y q e

  on_eats : (n : ℕ) (f : First) → Eats (step_on k d block n f)
  on_eats n (first.Plain l) s y q e = plain_eats k d l s y q e
  on_eats n first.If s y q e = bind_eats (cond_at d s) (if_of block n) s (cond_eats (factor_at d) (factor_eats d) s) (if_eats n) y q e
  on_eats n first.While s y q e = bind_eats (cond_at d s) (while_of block n) s (cond_eats (factor_at d) (factor_eats d) s) (while_eats n) y q e

  counted_eats : (n : ℕ) (x : ℕ × First) → Eats (λ r. cond (ltb n most_steps) (step_on k d block (n + 1) x.1 r) (Err (TooManySteps x.0)))
  counted_eats n x r y q e = by (ltb n most_steps) e
    where
      by : (b : Bool) → cond b (step_on k d block (n + 1) x.1 r) (Err (TooManySteps x.0)) ≡ Ok (y, q) → ahead q ≤ ahead r
      by true e = on_eats (n + 1) x.1 r y q e
      by false e = refuse (TooManySteps x.0) r y q e

  step_of_eats : (n : ℕ) → Eats (step_of k d block n)
  step_of_eats n s y q e = bind_eats (first_of s) _ s (first_eats s) (counted_eats n) y q e

module _ (step : ℕ → Stream → Out Tree) (eats : (n : ℕ) → Eats (step n)) where
  pub next_eats : (n : ℕ) (t : Tree) → Eats (next_step step n t)
  next_eats n t s y q e = bind_eats (step (n + steps t) s) _ s (eats (n + steps t) s) (λ u. keep (joined t u)) y q e

  script_of_eats : (n : ℕ) → Eats (script_of step n)
  script_of_eats n s y q e = bind_eats (step n s) (chain Semicolon (next_step step n)) s (eats n s) (chain_eats Semicolon (next_step step n) (next_eats n)) y q e

close_eats : (t : Tree) → Eats (close_block t)
close_eats t s y q e = bind_eats (expected CloseBrace s) _ s (expected_eats CloseBrace s) (λ p. keep t) y q e

block_eats : (k : Kind) (d n : ℕ) → Eats (block_at k d n)
unfolding block_at
block_eats k zero n s y q e = bind_eats (expected OpenBrace s) _ s (expected_eats OpenBrace s) (λ p. refuse (TooDeep p)) y q e
block_eats k (suc d) n s y q e =
    bind_eats (expected OpenBrace s) _ s (expected_eats OpenBrace s)
    (λ p r y q e. bind_eats (script_of (step_of k d (block_at k d)) n r) close_block r
    (script_of_eats (step_of k d (block_at k d)) (step_of_eats k d (block_at k d) (block_eats k d)) n r) close_eats y q e)
    y q e

pub step_eats : (k : Kind) (d n : ℕ) → Eats (step_at k d n)
step_eats k d n = step_of_eats k d (block_at k d) (block_eats k d) n
