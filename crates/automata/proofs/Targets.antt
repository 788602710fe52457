-- The targets of an expression's moves are its states, and what is no state or no atom is rejected.
use Rattle.std.proofs.Common.{◌≡◌, ℕ, ◌+◌, ◌≤◌, Bool, true, false, cond, ◌&&◌, eqb, ltb, leb, ◌⊎◌, Some, None, Option, refl, ap, subst, inl, inr, arith}
use Rattle.std.proofs.lemmas.Bool.{lt-leb, le-ltb}
use Rattle.atoms.specs.Atoms.{atoms}
use Rattle.automata.specs.declared.Move.{Move}
use Rattle.automata.specs.declared.Move.TheVariants.{Accept, Reject, Step}
use Rattle.automata.specs.Expressions.{Expr, order, test, seq, choice, while}
use Rattle.automata.specs.Walks.{orders_in, then_move, turn_move, first_move, after_move, machine_move, with_label, labelled}

-- a step's target is at most b
abbrev pub Within : {L : Type 0} → ℕ → Move L → Type 0
Within b Accept = Unit {0}
Within b Reject = Unit {0}
Within b (Step l t) = t ≤ b

pub within_step : {L : Type 0} (b : ℕ) (m : Move L) (l : L) (t : ℕ) → Within b m → m ≡ Step l t → t ≤ b
within_step b m l t h e = subst (Within b) e h

wider : {L : Type 0} (b c : ℕ) (m : Move L) → b ≤ c → Within b m → Within c m
wider b c Accept le h = tt
wider b c Reject le h = tt
wider b c (Step l t) le h = omega arith

either : {L : Type 0} (b : ℕ) (v : Bool) (m n : Move L) → Within b m → Within b n → Within b (cond v m n)
either b true m n h k = h
either b false m n h k = k

then_within : {L : Type 0} (b : ℕ) (m n : Move L) → Within b m → Within b n → Within b (then_move m n)
then_within b Accept n h k = k
then_within b Reject n h k = tt
then_within b (Step l t) n h k = h

turn_within : {L : Type 0} (b : ℕ) (m : Move L) → Within b m → Within b (turn_move m)
turn_within b Accept h = tt
turn_within b Reject h = tt
turn_within b (Step l t) h = h

module _ {L : Type 0} (a : ℕ) where
  pub first_within : (e : Expr L) (n : ℕ) → Within (n + orders_in e) (first_move e n a)
  first_within (order l) n = omega arith
  first_within (test c) n = either (n + 0) (c a) Accept Reject tt tt
  first_within (seq e f) n =
      then_within (n + (orders_in e + orders_in f)) (first_move e n a) (first_move f (n + orders_in e) a)
      (wider (n + orders_in e) _ (first_move e n a) (omega arith) (first_within e n))
      (wider (n + orders_in e + orders_in f) _ (first_move f (n + orders_in e) a) (omega arith) (first_within f (n + orders_in e)))
  first_within (choice c e f) n =
      either (n + (orders_in e + orders_in f)) (c a) (first_move e n a) (first_move f (n + orders_in e) a)
      (wider (n + orders_in e) _ (first_move e n a) (omega arith) (first_within e n))
      (wider (n + orders_in e + orders_in f) _ (first_move f (n + orders_in e) a) (omega arith) (first_within f (n + orders_in e)))
  first_within (while c e) n = either (n + orders_in e) (c a) (turn_move (first_move e n a)) Accept (turn_within (n + orders_in e) (first_move e n a) (first_within e n)) tt

  pub after_within : (e : Expr L) (n k : ℕ) → Within (n + orders_in e) (after_move e n k a)
  after_within (order l) n k = tt
  after_within (test c) n k = tt
  after_within (seq e f) n k =
      either (n + (orders_in e + orders_in f)) (leb k (n + orders_in e)) (then_move (after_move e n k a) (first_move f (n + orders_in e) a)) (after_move f (n + orders_in e) k a)
      (then_within (n + (orders_in e + orders_in f)) (after_move e n k a) (first_move f (n + orders_in e) a)
      (wider (n + orders_in e) _ (after_move e n k a) (omega arith) (after_within e n k))
      (wider (n + orders_in e + orders_in f) _ (first_move f (n + orders_in e) a) (omega arith) (first_within f (n + orders_in e))))
      (wider (n + orders_in e + orders_in f) _ (after_move f (n + orders_in e) k a) (omega arith) (after_within f (n + orders_in e) k))
  after_within (choice c e f) n k =
      either (n + (orders_in e + orders_in f)) (leb k (n + orders_in e)) (after_move e n k a) (after_move f (n + orders_in e) k a)
      (wider (n + orders_in e) _ (after_move e n k a) (omega arith) (after_within e n k))
      (wider (n + orders_in e + orders_in f) _ (after_move f (n + orders_in e) k a) (omega arith) (after_within f (n + orders_in e) k))
  after_within (while c e) n k =
      then_within (n + orders_in e) (after_move e n k a) (cond (c a) (turn_move (first_move e n a)) Accept) (after_within e n k) (first_within (while c e) n)

  pub move_within : (e : Expr L) (s : ℕ) → Within (orders_in e) (machine_move e s a)
  move_within e s =
      either (orders_in e) (ltb a atoms && leb s (orders_in e)) (cond (eqb s 0) (first_move e 0 a) (after_move e 0 s a)) Reject
      (either (orders_in e) (eqb s 0) (first_move e 0 a) (after_move e 0 s a)
      (wider (0 + orders_in e) (orders_in e) (first_move e 0 a) (omega arith) (first_within e 0))
      (wider (0 + orders_in e) (orders_in e) (after_move e 0 s a) (omega arith) (after_within e 0 s)))
      tt

with_within : {M : Type 0} (b t : ℕ) (o : Option M) → t ≤ b → Within b (with_label t o)
with_within b t None h = tt
with_within b t (Some m) h = h

pub labelled_within : {L M : Type 0} (f : L → Option M) (b : ℕ) (m : Move L) → Within b m → Within b (labelled f m)
labelled_within f b Accept h = tt
labelled_within f b Reject h = tt
labelled_within f b (Step l t) h = with_within b t (f l) h

pub move_outside : {L : Type 0} (e : Expr L) (s a : ℕ) → (1 + orders_in e ≤ s) ⊎ (atoms ≤ a) → machine_move e s a ≡ Reject
move_outside {L} e s a (inl h) = by (ltb a atoms)
  where
    by : (b : Bool) → cond (b && leb s (orders_in e)) (cond (eqb s 0) (first_move e 0 a) (after_move e 0 s a)) Reject ≡ Reject
    by true = ap (λ (v : Bool). cond v (cond (eqb s 0) (first_move e 0 a) (after_move e 0 s a)) Reject) (lt-leb s (orders_in e) (omega arith))
    by false = refl
move_outside e s a (inr h) = ap (λ (v : Bool). cond (v && leb s (orders_in e)) (cond (eqb s 0) (first_move e 0 a) (after_move e 0 s a)) Reject) (le-ltb a atoms h)
