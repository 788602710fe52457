-- Why a text has no answer.
use Rattle.std.specs.Prelude.{◌≡◌, ℕ, true, false, cond, List, length, Some, None, Ok, Err, Option, Result, nat_lt}
use Rattle.automata.specs.declared.Fault.{Fault}
use Rattle.automata.specs.declared.Fault.TheVariants.{LongText}
use Rattle.labels.specs.declared.Kind.{Kind}
use Rattle.script.specs.Trees.{Tree}
use Rattle.reading.specs.Readings.{most_bytes, reading_of}
use Rattle.marker.specs.Files.{table_head}
use Rattle.marker.specs.declared.failure.Cause.{Cause}
use Rattle.marker.specs.declared.failure.Cause.TheVariants.{Unreadable, Table, Unanswered}
use Rattle.answers.specs.declared.Cause.TheVariants.{Refused, Memory}

-- the fault of an outcome, if it is one
abbrev pub fault_of : Result Tree Fault → Option Fault
fault_of (Ok t) = None
fault_of (Err f) = Some f

-- the refusal of a text, if it is refused
abbrev pub refusal_of : Kind → List ℕ → Option Fault
refusal_of k text = cond (nat_lt most_bytes (length text)) (Some LongText) (fault_of (reading_of k text))

-- there is an answer only for a text that is read, and a refusal is the reading's; memory may lack
abbrev pub Answered : {S : Type 0} → Kind → List ℕ → Result S Cause → Type 0
Answered k text (Ok s) = refusal_of k text ≡ None
Answered k text (Err Unreadable) = ⊥
Answered k text (Err Table) = ⊥
Answered k text (Err (Unanswered (Refused f))) = refusal_of k text ≡ Some f
Answered k text (Err (Unanswered Memory)) = Unit {0}

-- a table has no answer yet; any other file is a text of the kind
abbrev pub FileAnswered : {S : Type 0} → Kind → List ℕ → Result S Cause → Type 0
FileAnswered k file r = (table_head file ≡ true → r ≡ Err Table) × (table_head file ≡ false → Answered k file r)
