-- What a line asks, and what is found.
use Rattle.std.specs.Prelude.{◌≡◌, ℕ, if◌then◌else◌, ◌⊎◌, List, [], ◌∷◌, Some, Err, vec_items, codes, ◌==◌}
use Rattle.std.specs.List.{slice_split}
use Rattle.std.specs.Str.{bytes_eq}
use Rattle.automata.specs.declared.Fault.{Fault}
use Rattle.automata.specs.declared.Move.{Move}
use Rattle.automata.specs.declared.Label.{Ghosts as LabelGhosts}
use Rattle.automata.specs.Runs.{ended}
use Rattle.labels.specs.declared.Kind.{Kind}
use Rattle.labels.specs.declared.Kind.TheVariants.{Bare, Measured}
use Rattle.labels.specs.Kinds.{bare_labels, measured_labels}
use Rattle.answers.specs.declared.Cause.{Cause}
use Rattle.answers.specs.declared.Cause.TheVariants as cause
use Rattle.answers.specs.Told.{text_as, Holding}
use Rattle.trials.specs.declared.outcome.Outcome.{Outcome}
use Rattle.trials.specs.declared.outcome.Outcome.TheVariants.{Read}
use Rattle.trials.specs.declared.question.Task.{Task}
use Rattle.trials.specs.declared.question.Task.TheVariants.{Size, Replay}
use Rattle.trials.specs.declared.question.Question.{Question}
use Rattle.trials.specs.Escapes.{unescaped}
use Rattle.trials.specs.Fields.{Writes, AllWritten}
use Rattle.trials.specs.Kinds.{Numbers}
use Rattle.trials.specs.Outcomes.{outcome_of, refused_by}

-- the items of a list with commas; `-` stands for none
abbrev pub items_in : List ℕ → List (List ℕ)
items_in field = if bytes_eq field (codes "-") then [] else slice_split (λ b. b == 44) field

-- the atoms that the items of a list write
abbrev pub Atoms : List ℕ → List ℕ → Type 0
Atoms field atoms = AllWritten atoms (items_in field)

-- a replay from the state and over the atoms that the fields write
abbrev pub Replays : List ℕ → List ℕ → Task → Type 0
Replays state atoms Size = ⊥
Replays state atoms (Replay s xs) = Writes s state × Atoms atoms (vec_items xs)

-- a script as its fields write it, and a task
pub record Questions (kind text : List ℕ) (task : Task) (q : Question) : Type 0 where
  pub numbers : Numbers q.kind kind
  pub unescapes : unescaped text ≡ Some (vec_items q.text)
  pub asks : q.task ≡ task

-- the fields ask this question, and these fields stand behind it
abbrev pub AsksFor : Task → List (List ℕ) → Question → List (List ℕ) → Type 0
AsksFor Size fields q rest = (kind : List ℕ) × (text : List ℕ) × (fields ≡ codes "read" ∷ kind ∷ text ∷ rest) × Questions kind text Size q
AsksFor (Replay s xs) fields q rest =
    (kind : List ℕ) × (text : List ℕ) × (state : List ℕ) × (atoms : List ℕ) × (fields ≡ codes "replay" ∷ kind ∷ text ∷ state ∷ atoms ∷ rest)
    × Replays state atoms (Replay s xs) × Questions kind text (Replay s xs) q

-- the same, by the question's own task
abbrev pub Asks : List (List ℕ) → Question → List (List ℕ) → Type 0
Asks fields q rest = AsksFor q.task fields q rest

-- the outcome of a call that gave no answer
abbrev pub Declined : Cause → Outcome → Type 0
Declined (cause.Refused f) o = o ≡ refused_by f
Declined cause.Memory o = ⊥

-- the text is refused, and this is its outcome
abbrev pub Refusal : Kind → List ℕ → Outcome → Type 0
Refusal k text o = (f : Fault) × (text_as k text ≡ Err f) × (o ≡ refused_by f)

-- the outcome of a task on a machine: its size, or how its run ends
abbrev pub Met : {L : Type 0} → Task → Outcome → ℕ → (ℕ → ℕ → Move L) → Type 0
Met Size o size moves = o ≡ Read size
Met (Replay s xs) o size moves = o ≡ outcome_of (ended moves 0 s (vec_items xs))

-- the outcome of a task over a text: its refusal, or the size or the ending of its machine
abbrev pub Found : {L : Type 0} → LabelGhosts L → Kind → List ℕ → Task → Outcome → Type 0
Found l k text Size o = Refusal k text o ⊎ Holding l k text (λ size moves. o ≡ Read size)
Found l k text (Replay s xs) o = Refusal k text o ⊎ Holding l k text (λ size moves. o ≡ outcome_of (ended moves 0 s (vec_items xs)))

-- the same of a question, with the labels of its kind
abbrev pub FoundAs : Kind → Question → Outcome → Type 0
FoundAs Bare q o = Found bare_labels Bare (vec_items q.text) q.task o
FoundAs Measured q o = Found measured_labels Measured (vec_items q.text) q.task o

-- the outcome of a question
abbrev pub FoundBy : Question → Outcome → Type 0
FoundBy q o = FoundAs q.kind q o
