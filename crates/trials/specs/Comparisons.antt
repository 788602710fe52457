-- The stored and the found outcome of a line.
use Rattle.std.specs.Prelude.{ℕ, List}
use Rattle.trials.specs.declared.outcome.Outcome.{Outcome}
use Rattle.trials.specs.declared.question.Question.{Question}
use Rattle.trials.specs.Outcomes.{Stored}
use Rattle.trials.specs.Questions.{Asks, FoundBy}

-- the fields ask a question and store an outcome behind it, and the other is what is found
abbrev pub Compared : List (List ℕ) → Outcome → Outcome → Type 0
Compared fields stored found = (q : Question) × (rest : List (List ℕ)) × Asks fields q rest × Stored rest stored × FoundBy q found
