-- A condition token by token: what each way through its code comes to.
use Rattle.std.proofs.Common.{◌≡◌, ℕ, zero, suc, ◌+◌, ◌-◌, ◌<◌, true, false, Ok, Err, Result, sym, ap, ◌∙◌, subst, add-one, arith}
use Rattle.atoms.specs.declared.AtomSet.{AtomSet}
use Rattle.atoms.specs.Sets.{every}
use Rattle.automata.specs.declared.Fault.{Fault}
use Rattle.automata.specs.declared.Fault.TheVariants.{TooDeep}
use Rattle.tokens.specs.declared.Mark.{Mark as Sign}
use Rattle.tokens.specs.declared.Mark.TheVariants.{CloseParen}
use Rattle.tokens.specs.Streams.{Stream, ahead, begins, past, expected}
use Rattle.tokens.proofs.Ahead.{past_same}
use Rattle.conditions.specs.declared.Operand.TheVariants.{Set, Not, Group}
use Rattle.conditions.specs.Outcomes.{Out, bind, chain, Eats}
use Rattle.conditions.specs.Operands.{operand_of}
use Rattle.conditions.specs.Conditions.{cond_of, cond_at, close_group, factor_at, Told}
use Rattle.conditions.proofs.Chains.{past_less, chain_go, chain_stop}

-- parts joined by a mark
module _ {A : Type 0} (m : Sign) (part : A → Stream → Out A) (eats : (x : A) → Eats (part x)) where
  pub turn : (x : A) (s a : Stream) → true ≡ begins m s → a ≡ past m s → (y : A) (q : Stream) → part x a ≡ Ok (y, q) → chain m part x s ≡ chain m part y q
  turn x s a b r y q e = chain_go m part eats x s (sym b) ∙ ap (λ (t : Stream). bind (part x t) (chain m part)) (sym r) ∙ ap (λ (o : Out A). bind o (chain m part)) e

  pub fall : (x : A) (s a : Stream) → true ≡ begins m s → a ≡ past m s → (f : Fault) → part x a ≡ Err f → chain m part x s ≡ Err f
  fall x s a b r f e = chain_go m part eats x s (sym b) ∙ ap (λ (t : Stream). bind (part x t) (chain m part)) (sym r) ∙ ap (λ (o : Out A). bind o (chain m part)) e

  pub done : (x : A) (s a : Stream) → false ≡ begins m s → a ≡ past m s → chain m part x s ≡ Ok (x, a)
  done x s a b r = chain_stop m part x s (sym b) ∙ ap (λ (t : Stream). Ok (x, t)) (sym (r ∙ past_same m s (sym b)))

pub left_less : (m : Sign) (s a : Stream) → true ≡ begins m s → a ≡ past m s → ahead a < ahead s
left_less m s a b r = let l = past_less m s (sym b) in let e = ap ahead r in omega arith

-- what a part of a condition makes of one that went before
pub with_one : (op : Stream → Out ℕ) (f : ℕ → ℕ) (a : Stream) (y : ℕ) (q : Stream) (z : ℕ) → op a ≡ Ok (y, q) → z ≡ f y → bind (op a) (λ v r. Ok (f v, r)) ≡ Ok (z, q)
with_one op f a y q z e is = ap (λ (o : Out ℕ). bind o (λ v r. Ok (f v, r))) e ∙ ap (λ (v : ℕ). Ok (v, q)) (sym is)

pub without : {A B : Type 0} (o : Out A) (g : A → Stream → Out B) (f : Fault) → o ≡ Err f → bind o g ≡ Err f
without o g f e = ap (λ v. bind v g) e

pub going : {A B : Type 0} (o : Out A) (g : A → Stream → Out B) (x : A) (q : Stream) → o ≡ Ok (x, q) → bind o g ≡ g x q
going o g x q e = ap (λ v. bind v g) e

-- a factor by its first token
module _ (d : ℕ) (s : Stream) where
  pub factor_fails : (f : Fault) → operand_of s ≡ Err f → factor_at d s ≡ Err f
  unfolding factor_at
  factor_fails f e = by d
    where
      by : (n : ℕ) → factor_at n s ≡ Err f
      by zero = without (operand_of s) _ f e
      by (suc n) = without (operand_of s) _ f e

  pub factor_set : (x : AtomSet) (q : Stream) → operand_of s ≡ Ok (Set x, q) → factor_at d s ≡ Ok (x.bits, q)
  unfolding factor_at
  factor_set x q e = by d
    where
      by : (n : ℕ) → factor_at n s ≡ Ok (x.bits, q)
      by zero = going (operand_of s) _ (Set x) q e
      by (suc n) = going (operand_of s) _ (Set x) q e

  pub factor_deep_not : (p : ℕ) (q : Stream) → operand_of s ≡ Ok (Not p, q) → d ≡ 0 → factor_at d s ≡ Err (TooDeep p)
  unfolding factor_at
  factor_deep_not p q e z = ap (λ (n : ℕ). factor_at n s) z ∙ going (operand_of s) _ (Not p) q e

  pub factor_deep_group : (p : ℕ) (q : Stream) → operand_of s ≡ Ok (Group p, q) → d ≡ 0 → factor_at d s ≡ Err (TooDeep p)
  unfolding factor_at
  factor_deep_group p q e z = ap (λ (n : ℕ). factor_at n s) z ∙ going (operand_of s) _ (Group p) q e

  pub factor_not : (p : ℕ) (q : Stream) → operand_of s ≡ Ok (Not p, q) → (b : ℕ) → d ≡ b + 1 → factor_at d s ≡ bind (factor_at b q) (λ x r. Ok (every - x, r))
  unfolding factor_at
  factor_not p q e b z = ap (λ (n : ℕ). factor_at n s) (z ∙ add-one b) ∙ going (operand_of s) _ (Not p) q e

  pub factor_group : (p : ℕ) (q : Stream) → operand_of s ≡ Ok (Group p, q) → (b : ℕ) → d ≡ b + 1 → factor_at d s ≡ bind (cond_of (factor_at b) q) close_group
  unfolding factor_at
  factor_group p q e b z = ap (λ (n : ℕ). factor_at n s) (z ∙ add-one b) ∙ going (operand_of s) _ (Group p) q e

  -- a factor after `!`, and a condition in brackets, with a level less
  module _ (p : ℕ) (q : Stream) (b : ℕ) (z : d ≡ b + 1) where
    pub not_fails : (f : Fault) → operand_of s ≡ Ok (Not p, q) → factor_at b q ≡ Err f → factor_at d s ≡ Err f
    not_fails f o e = factor_not p q o b z ∙ without (factor_at b q) _ f e

    pub not_is : (x : ℕ) (r : Stream) → operand_of s ≡ Ok (Not p, q) → factor_at b q ≡ Ok (x, r) → factor_at d s ≡ Ok (every - x, r)
    not_is x r o e = factor_not p q o b z ∙ going (factor_at b q) _ x r e

    pub group_fails : (f : Fault) → operand_of s ≡ Ok (Group p, q) → cond_at b q ≡ Err f → factor_at d s ≡ Err f
    group_fails f o e = factor_group p q o b z ∙ without (cond_at b q) _ f e

    pub group_open : (x : ℕ) (r : Stream) (f : Fault) → operand_of s ≡ Ok (Group p, q) → cond_at b q ≡ Ok (x, r) → expected CloseParen r ≡ Err f → factor_at d s ≡ Err f
    group_open x r f o e h = factor_group p q o b z ∙ going (cond_at b q) close_group x r e ∙ without (expected CloseParen r) _ f h

    pub group_is : (x : ℕ) (r : Stream) (k : ℕ) (t : Stream) → operand_of s ≡ Ok (Group p, q) → cond_at b q ≡ Ok (x, r) → expected CloseParen r ≡ Ok (k, t) → factor_at d s ≡ Ok (x, t)
    group_is x r k t o e h = factor_group p q o b z ∙ going (cond_at b q) close_group x r e ∙ going (expected CloseParen r) _ k t h

-- each way through a factor
pub ruleset factors = (factor_fails, factor_set, factor_deep_not, factor_deep_group, not_fails, not_is, group_fails, group_open, group_is)

-- the answer of a call that failed
pub told_err : (o : Out ℕ) (r : Result AtomSet Fault) (rest : Stream) (f : Fault) → r ≡ Err f → o ≡ Err f → Told o r rest
told_err o r rest f e h = subst (λ v. Told o v rest) (sym e) h
