-- Guarded traces, and what a state of a machine accepts.
use Rattle.std.specs.Prelude.{◌≡◌, ℕ, ◌+◌, Bool, true, List, [], ◌∷◌}
use Rattle.automata.specs.declared.Move.{Move}
use Rattle.automata.specs.declared.Move.TheVariants.{Accept, Step}

-- a guarded trace: atoms with labels between them, at least one atom
pub data Trace (L : Type 0) : Type 0 where
  last : ℕ → Trace L
  then : ℕ → L → Trace L → Trace L

-- the atoms of a trace, in their order
abbrev pub atoms_of : {L : Type 0} → Trace L → List ℕ
atoms_of (last a) = a ∷ []
atoms_of (then a l t) = a ∷ atoms_of t

-- the length of a trace is its number of atoms
abbrev pub length_of : {L : Type 0} → Trace L → ℕ
length_of (last a) = 1
length_of (then a l t) = 1 + length_of t

-- two traces count as one: their atoms are equal and their labels the same, place by place
abbrev pub Same : {L : Type 0} → (L → L → Bool) → Trace L → Trace L → Type 0
Same alike (last a) (last b) = a ≡ b
Same alike (last a) (then b l u) = ⊥
Same alike (then a k t) (last b) = ⊥
Same alike (then a k t) (then b l u) = (a ≡ b) × (alike k l ≡ true) × Same alike t u

-- each atom but the last makes a step whose label is the same as the trace's next label,
-- the run goes on at the target, and the last atom is accepted
abbrev pub Accepts : {L : Type 0} → (L → L → Bool) → (ℕ → ℕ → Move L) → ℕ → Trace L → Type 0
Accepts alike moves s (last a) = moves s a ≡ Accept
Accepts {L} alike moves s (then a l t) = (k : L) × (n : ℕ) × (moves s a ≡ Step k n) × (alike k l ≡ true) × Accepts alike moves n t

-- no trace is accepted from only one of two states
abbrev pub Equal : {L : Type 0} → (L → L → Bool) → (ℕ → ℕ → Move L) → ℕ → (ℕ → ℕ → Move L) → ℕ → Type 0
Equal {L} alike m s c u = (t : Trace L) → (Accepts alike m s t → Accepts alike c u t) × (Accepts alike c u t → Accepts alike m s t)

-- a dead state: no trace is accepted from it
abbrev pub Dead : {L : Type 0} → (L → L → Bool) → (ℕ → ℕ → Move L) → ℕ → Type 0
Dead {L} alike m s = (t : Trace L) → Accepts alike m s t → ⊥

-- the run that a state makes on the atoms of a trace ends in accept, and the trace's labels are those of its steps
abbrev pub Own : {L : Type 0} → (ℕ → ℕ → Move L) → ℕ → Trace L → Type 0
Own m s (last a) = m s a ≡ Accept
Own m s (then a l t) = (n : ℕ) × (m s a ≡ Step l n) × Own m n t
