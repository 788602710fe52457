-- The moves that a run makes.
use Rattle.std.specs.Prelude.{◌≡◌, ℕ, List, [], ◌∷◌, vec_items}
use Rattle.automata.specs.declared.Move.{Move}
use Rattle.automata.specs.declared.Move.TheVariants.{Accept, Reject, Step}
use Rattle.labels.specs.declared.Order.{Order}
use Rattle.automata.specs.Runs.{ended}
use Rattle.answers.specs.declared.Line.{Line}
use Rattle.answers.specs.declared.Played.{Played}

-- a move with the order that its label stands for
abbrev pub told_move : {L : Type 0} → (L → Order) → Move L → Move Order
told_move said Accept = Accept
told_move said Reject = Reject
told_move said (Step l t) = Step (said l) t

-- what follows a move: nothing, or the moves from its target on
abbrev pub onward : {L : Type 0} → (ℕ → List Line) → Move L → List Line
onward on Accept = []
onward on Reject = []
onward on (Step l t) = on t

-- the moves from a state on the atoms, each with its atom; one that is no step is the last
abbrev pub lines_of : {L : Type 0} → (L → Order) → (ℕ → ℕ → Move L) → ℕ → List ℕ → List Line
lines_of said moves s [] = []
lines_of said moves s (a ∷ rest) = record { atom = a; made = told_move said (moves s a) } ∷ onward (λ t. lines_of said moves t rest) (moves s a)

-- the run from a state over the atoms: its moves, and how it ends
abbrev pub Plays : {L : Type 0} → (L → Order) → (ℕ → ℕ → Move L) → ℕ → List ℕ → Played → Type 0
Plays said moves s atoms x = (vec_items x.lines ≡ lines_of said moves s atoms) × (x.ending ≡ ended moves 0 s atoms)
