-- Sets of traces, joined in sequence, by choice and in a loop.
use Rattle.std.specs.Prelude.{◌≡◌, ℕ, ◌<◌, Bool, true, false, ◌⊎◌}
use Rattle.atoms.specs.Atoms.{atoms}
use Rattle.automata.specs.Traces.{Trace, last, then}

-- a set of traces: which traces are members
abbrev pub Traces : Type 0 → Type 1
Traces L = Trace L → Type 0

-- the first atom of a trace
abbrev pub first : {L : Type 0} → Trace L → ℕ
first (last a) = a
first (then a l t) = a

-- t is x joined to y at a shared atom
pub data Fused {L : Type 0} : Trace L → Trace L → Trace L → Type 0 where
  at_last : {a : ℕ} {y : Trace L} → first y ≡ a → Fused (last a) y y
  further : {a : ℕ} {l : L} {x y t : Trace L} → Fused x y t → Fused (then a l x) y (then a l t)

-- the traces of one set joined to those of another at a shared atom
abbrev pub Sequence : {L : Type 0} → Traces L → Traces L → Traces L
Sequence {L} A B t = (x : Trace L) × (y : Trace L) × Fused x y t × A x × B y

-- those of A that begin inside the set, those of B that begin outside
abbrev pub Choice : {L : Type 0} → (ℕ → Bool) → Traces L → Traces L → Traces L
Choice inside A B t = ((inside (first t) ≡ true) × A t) ⊎ ((inside (first t) ≡ false) × B t)

-- any number of traces of A, each beginning inside the set, ending at an atom outside
pub data Loop {L : Type 0} (inside : ℕ → Bool) (A : Traces L) : Trace L → Type 0 where
  out : {a : ℕ} → a < atoms → inside a ≡ false → Loop inside A (last a)
  turn : {x y t : Trace L} → inside (first x) ≡ true → A x → Loop inside A y → Fused x y t → Loop inside A t
