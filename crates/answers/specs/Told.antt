-- What a text answers, or why it does not.
use Rattle.std.specs.Prelude.{◌≡◌, ℕ, ◌-◌, ◌≤◌, ◌⊎◌, cond, List, ◌++◌, length, replicate, Ok, Err, Result, nat_lt}
use Rattle.atoms.specs.Atoms.{atoms}
use Rattle.automata.specs.declared.Fault.{Fault}
use Rattle.automata.specs.declared.Fault.TheVariants.{LongText}
use Rattle.automata.specs.declared.Move.{Move}
use Rattle.automata.specs.declared.Move.TheVariants.{Reject}
use Rattle.automata.specs.declared.Label.{Ghosts as LabelGhosts}
use Rattle.labels.specs.declared.Kind.{Kind}
use Rattle.script.specs.declared.node.Node.{Node}
use Rattle.script.specs.declared.node.Node.TheVariants.{Blank}
use Rattle.script.specs.Trees.{Tree}
use Rattle.script.specs.Lists.{code}
use Rattle.script.specs.Machines.{MachineOf}
use Rattle.reading.specs.Drafts.{node_records}
use Rattle.reading.specs.Readings.{most_bytes, reading_of}
use Rattle.answers.specs.declared.Cause.{Cause}
use Rattle.answers.specs.declared.Cause.TheVariants.{Refused, Memory}

-- the tree of a text, or its refusal
abbrev pub text_as : Kind → List ℕ → Result Tree Fault
text_as k text = cond (nat_lt most_bytes (length text)) (Err LongText) (reading_of k text)

-- a node list of the fixed length with the script that a tree stands for
unfoldable pub list_of : Tree → List Node
list_of t = code t ++ replicate (node_records - length (code t)) Blank

-- what is no state or no atom is rejected: a void machine rejects all
abbrev pub Bounded : {L : Type 0} → ℕ → (ℕ → ℕ → Move L) → Type 0
Bounded size moves = (s a : ℕ) → (size ≤ s) ⊎ (atoms ≤ a) → moves s a ≡ Reject

module _ {L : Type 0} (l : LabelGhosts L) where
  -- the text is read, and the size and the moves of its machine are as asked
  abbrev pub Holding : Kind → List ℕ → (ℕ → (ℕ → ℕ → Move L) → Type 0) → Type 0
  Holding k text asked =
      (t : Tree) × (size : ℕ) × (moves : (ℕ → ℕ → Move L)) × (text_as k text ≡ Ok t) × MachineOf l (list_of t) size moves × Bounded size moves × asked size moves

  -- an answer is one about the machine of the text, and a refusal is the reading's; memory may lack
  abbrev pub Told : {S : Type 0} → Kind → List ℕ → (S → ℕ → (ℕ → ℕ → Move L) → Type 0) → Result S Cause → Type 0
  Told k text answers (Ok s) = Holding k text (answers s)
  Told k text answers (Err (Refused f)) = text_as k text ≡ Err f
  Told k text answers (Err Memory) = Unit {0}
