-- The outcome of a run, and outcomes as lines store them.
use Rattle.std.specs.Prelude.{◌≡◌, ℕ, List, [], ◌∷◌, Some, codes}
use Rattle.automata.specs.declared.Fault.{Fault}
use Rattle.automata.specs.Faults.{number_of, layer_of, place_of}
use Rattle.automata.specs.declared.Ending.{Ending}
use Rattle.automata.specs.declared.Ending.TheVariants as ending
use Rattle.trials.specs.declared.outcome.Outcome.{Outcome}
use Rattle.trials.specs.declared.outcome.Outcome.TheVariants.{Read, Refused, Ended}
use Rattle.trials.specs.Fields.{Writes}

-- the outcome of a run that ended so
abbrev pub outcome_of : Ending → Outcome
outcome_of e = Ended e

-- the outcome of a refusal
abbrev pub refused_by : Fault → Outcome
refused_by f = Refused (number_of f) (layer_of f) (place_of f)

-- the fields are a word and the number p
abbrev pub At : List ℕ → ℕ → List (List ℕ) → Type 0
At name p fields = (a : List ℕ) × (fields ≡ name ∷ a ∷ []) × Writes p a

-- the fields of an outcome: its word and its numbers; behind a size stands the number of steps
abbrev pub Stored : List (List ℕ) → Outcome → Type 0
Stored fields (Read n) = (a : List ℕ) × (b : List ℕ) × (fields ≡ codes "ok" ∷ a ∷ b ∷ []) × Writes n a
Stored fields (Refused n layer place) =
    (a : List ℕ) × (b : List ℕ) × (c : List ℕ) × (l : ℕ) × (p : ℕ) × (fields ≡ codes "refused" ∷ a ∷ b ∷ c ∷ []) × Writes n a × (layer ≡ Some l) × Writes l b × (place ≡ Some p) × Writes p c
Stored fields (Ended ending.Accepted) = fields ≡ codes "accepted" ∷ []
Stored fields (Ended (ending.Rejected p)) = At (codes "rejected") p fields
Stored fields (Ended (ending.Early p)) = At (codes "early") p fields
Stored fields (Ended (ending.Out p)) = At (codes "out") p fields
