-- How a run over a list of atoms ends.
use Rattle.std.specs.Prelude.{ℕ, ◌+◌, List, [], ◌∷◌}
use Rattle.automata.specs.declared.Move.{Move}
use Rattle.automata.specs.declared.Move.TheVariants.{Accept, Reject, Step}
use Rattle.automata.specs.declared.Ending.{Ending}
use Rattle.automata.specs.declared.Ending.TheVariants.{Accepted, Rejected, Early, Out}

-- accepted at the last atom; with atoms left over it is accepted early
abbrev pub accepted_at : ℕ → List ℕ → Ending
accepted_at i [] = Accepted
accepted_at i (a ∷ rest) = Early i

-- what one move comes to: the end at place i, or the run goes on at the target
abbrev pub on_move : {L : Type 0} → ℕ → List ℕ → (ℕ → Ending) → Move L → Ending
on_move i rest on Accept = accepted_at i rest
on_move i rest on Reject = Rejected i
on_move i rest on (Step l t) = on t

-- the ending of the run from a state over the atoms, the first of which has place i
abbrev pub ended : {L : Type 0} → (ℕ → ℕ → Move L) → ℕ → ℕ → List ℕ → Ending
ended moves i s [] = Out i
ended moves i s (a ∷ rest) = on_move i rest (λ t. ended moves (i + 1) t rest) (moves s a)
