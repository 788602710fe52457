-- Parts joined by a mark: the number of turns that are allowed for does not matter.
use Rattle.std.proofs.Common.{◌≡◌, ℕ, zero, suc, ◌+◌, ◌<◌, ◌≤◌, Bool, true, false, cond, Ok, Err, sym, refl, ap, ◌∙◌, arith}
use Rattle.automata.specs.declared.Fault.{Fault}
use Rattle.tokens.specs.declared.Mark.{Mark as Sign}
use Rattle.tokens.specs.Classes.{same_mark}
use Rattle.tokens.specs.Streams.{Stream, mark, ahead, begins, past}
use Rattle.tokens.proofs.Ahead.{ahead_past}
use Rattle.conditions.specs.Outcomes.{Out, bind, more, chain}
pub use Rattle.conditions.specs.Outcomes.{Eats}

rest_of : {A : Type 0} → Stream → Out A → Stream
rest_of s (Ok x) = x.1
rest_of s (Err e) = s

-- a value with the same tokens left
pub keep : {A : Type 0} (x : A) → Eats (λ s. Ok (x, s))
unfolding rest_of
keep {A} x s y q e = let l : ahead s ≡ ahead q = ap (λ (o : Out A). ahead (rest_of s o)) e in omega arith

pub refuse : {A : Type 0} (f : Fault) → Eats {A = A} (λ s. Err f)
refuse f s y q e = cc

-- a token taken
pub taken : {A : Type 0} (x : A) (s t : Stream) → ahead s ≤ ahead t → (y : A) (q : Stream) → ◌≡◌ {A = Out A} (Ok (x, s)) (Ok (y, q)) → ahead q ≤ ahead t
taken x s t h y q e = let k = keep x s y q e in omega arith

pub bind_eats : {A B : Type 0} (o : Out A) (f : A → Stream → Out B) (s : Stream) → ((x : A) (q : Stream) → o ≡ Ok (x, q) → ahead q ≤ ahead s)
    → ((x : A) → Eats (f x)) → (y : B) (q : Stream) → bind o f ≡ Ok (y, q) → ahead q ≤ ahead s
bind_eats (Ok v) f s h g y q e = let a = h v.0 v.1 refl in let b = g v.0 v.1 y q e in omega arith
bind_eats (Err v) f s h g y q e = cc

pub past_less : (m : Sign) (s : Stream) → begins m s ≡ true → ahead (past m s) < ahead s
past_less m s h = let e = ahead_past m s h in omega arith

none_begins : (m : Sign) (s : Stream) → ahead s ≤ 0 → begins m s ≡ false
none_begins m (mark p n s) h = absurd (omega arith)
none_begins m _ h = refl

pub past_le : (m : Sign) (s : Stream) → ahead (past m s) ≤ ahead s
past_le m (mark p n s) = by (same_mark m n)
  where
    by : (b : Bool) → ahead (cond b s (mark p n s)) ≤ 1 + ahead s
    by true = omega arith
    by false = omega arith
past_le m _ = omega arith

module _ {A : Type 0} (m : Sign) (part : A → Stream → Out A) where
  stop : (n : ℕ) (x : A) (s : Stream) → begins m s ≡ false → more m part n x s ≡ Ok (x, s)
  stop zero x s b = refl
  stop (suc n) x s b = ap (λ (v : Bool). cond v (bind (part x (past m s)) (more m part n)) (Ok (x, s))) b

  go : (n : ℕ) (x : A) (s : Stream) → begins m s ≡ true → more m part (suc n) x s ≡ bind (part x (past m s)) (more m part n)
  go n x s b = ap (λ (v : Bool). cond v (bind (part x (past m s)) (more m part n)) (Ok (x, s))) b

  module _ (eats : (x : A) → Eats (part x)) where
    same_on : (n k : ℕ) (s : Stream) (o : Out A) → ((y : A) (q : Stream) → ahead q ≤ n → ahead q ≤ k → more m part n y q ≡ more m part k y q)
        → ((y : A) (q : Stream) → o ≡ Ok (y, q) → ahead q ≤ ahead s) → ahead s ≤ n → ahead s ≤ k → bind o (more m part n) ≡ bind o (more m part k)
    same_on n k s (Ok v) ih h hn hk = let a = h v.0 v.1 refl in ih v.0 v.1 (omega arith) (omega arith)
    same_on n k s (Err e) ih h hn hk = refl

    same_by : (b : Bool) (n k : ℕ) → ((y : A) (q : Stream) → ahead q ≤ n → ahead q ≤ k → more m part n y q ≡ more m part k y q)
        → (x : A) (s : Stream) → begins m s ≡ b → ahead s ≤ suc n → ahead s ≤ suc k → more m part (suc n) x s ≡ more m part (suc k) x s
    same_by false n k ih x s b hn hk = stop (suc n) x s b ∙ sym (stop (suc k) x s b)
    same_by true n k ih x s b hn hk =
        let l = past_less m s b in
        go n x s b ∙ same_on n k (past m s) (part x (past m s)) ih (eats x (past m s)) (omega arith) (omega arith) ∙ sym (go k x s b)

    same : (n k : ℕ) (x : A) (s : Stream) → ahead s ≤ n → ahead s ≤ k → more m part n x s ≡ more m part k x s
    same zero k x s hn hk = sym (stop k x s (none_begins m s (omega arith)))
    same (suc n) zero x s hn hk = stop (suc n) x s (none_begins m s (omega arith))
    same (suc n) (suc k) x s hn hk = same_by (begins m s) n k (same n k) x s refl hn hk

    chain_by : (n : ℕ) (x : A) (s : Stream) → ahead s ≤ n → more m part n x s ≡ chain m part x s
    unfolding chain
    chain_by n x s h = same n (ahead s) x s h (omega arith)

    bind_chain : (n : ℕ) (s : Stream) (o : Out A) → ((y : A) (q : Stream) → o ≡ Ok (y, q) → ahead q ≤ ahead s) → ahead s ≤ n → bind o (more m part n) ≡ bind o (chain m part)
    bind_chain n s (Ok v) h hn = let a = h v.0 v.1 refl in chain_by n v.0 v.1 (omega arith)
    bind_chain n s (Err e) h hn = refl

    -- one more part, where the mark comes next
    pub chain_go : (x : A) (s : Stream) → begins m s ≡ true → chain m part x s ≡ bind (part x (past m s)) (chain m part)
    unfolding chain
    chain_go x s b = by (ahead s) refl
      where
        by : (n : ℕ) → ahead s ≡ n → more m part (ahead s) x s ≡ bind (part x (past m s)) (chain m part)
        by zero e = absurd (let l = past_less m s b in omega arith)
        by (suc n) e =
            let l = past_less m s b in
            ap (λ (k : ℕ). more m part k x s) e ∙ go n x s b ∙ bind_chain n (past m s) (part x (past m s)) (eats x (past m s)) (omega arith)

  -- no more parts
  pub chain_stop : (x : A) (s : Stream) → begins m s ≡ false → chain m part x s ≡ Ok (x, s)
  unfolding chain
  chain_stop x s b = stop (ahead s) x s b

  eats_by : (b : Bool) (f : A → Stream → Out A) (x : A) (s : Stream) → ((x : A) → Eats (part x)) → ((x : A) → Eats (f x)) → (y : A) (q : Stream)
      → cond b (bind (part x (past m s)) f) (Ok (x, s)) ≡ Ok (y, q) → ahead q ≤ ahead s
  eats_by true f x s eats ih y q e = let l = bind_eats (part x (past m s)) f (past m s) (eats x (past m s)) ih y q e in let k = past_le m s in omega arith
  eats_by false f x s eats ih y q e = keep x s y q e

  more_eats : ((x : A) → Eats (part x)) → (n : ℕ) (x : A) → Eats (more m part n x)
  more_eats eats zero x s y q e = keep x s y q e
  more_eats eats (suc n) x s y q e = eats_by (begins m s) (more m part n) x s eats (more_eats eats n) y q e

  pub chain_eats : ((x : A) → Eats (part x)) → (x : A) → Eats (chain m part x)
  unfolding chain
  chain_eats eats x s y q e = more_eats eats (ahead s) x s y q e
