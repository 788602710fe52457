-- What a command answers on a file, exactly.
use Rattle.std.specs.Prelude.{◌≡◌, ℕ, true, false, List, Ok, Err, Result, vec_items}
use Rattle.automata.specs.declared.Label.{Ghosts as LabelGhosts}
use Rattle.labels.specs.declared.Kind.{Kind}
use Rattle.labels.specs.declared.Kind.TheVariants.{Bare, Measured}
use Rattle.labels.specs.declared.Order.{Order}
use Rattle.labels.specs.Kinds.{bare_labels, measured_labels, said_bare, said_measured}
use Rattle.requests.specs.declared.request.Command.{Command}
use Rattle.requests.specs.declared.request.Command.TheVariants as command
use Rattle.requests.specs.declared.request.Request.{Request}
use Rattle.answers.specs.Lines.{Plays}
use Rattle.answers.specs.Told.{text_as, Holding}
use Rattle.marker.specs.Files.{table_head}
use Rattle.marker.specs.declared.failure.Cause.{Cause}
use Rattle.marker.specs.declared.failure.Cause.TheVariants.{Unreadable, Table, Unanswered}
use Rattle.answers.specs.declared.Cause.TheVariants.{Refused, Memory}
use Rattle.marker.specs.declared.reply.Reply.{Reply}
use Rattle.marker.specs.declared.reply.Reply.TheVariants.{Size, Run}

module _ {L : Type 0} (l : LabelGhosts L) (said : L → Order) where
  -- the size of the text's machine, or its run from the start over the atoms
  abbrev pub RepliedTo : Kind → List ℕ → Command → Reply → Type 0
  RepliedTo k text command.Check (Size n) = Holding l k text (λ size moves. n ≡ size)
  RepliedTo k text command.Check (Run x) = ⊥
  RepliedTo k text (command.Run atoms) (Size n) = ⊥
  RepliedTo k text (command.Run atoms) (Run x) = Holding l k text (λ size moves. Plays said moves 0 (vec_items atoms) x)

  -- the same, or the refusal of the text; memory may lack
  abbrev pub Replied : Kind → List ℕ → Command → Result Reply Cause → Type 0
  Replied k text c (Ok r) = RepliedTo k text c r
  Replied k text c (Err Unreadable) = ⊥
  Replied k text c (Err Table) = ⊥
  Replied k text c (Err (Unanswered (Refused f))) = text_as k text ≡ Err f
  Replied k text c (Err (Unanswered Memory)) = Unit {0}

-- the same with the labels of a kind
abbrev pub RepliedAs : Kind → List ℕ → Command → Result Reply Cause → Type 0
RepliedAs Bare text c r = Replied bare_labels said_bare Bare text c r
RepliedAs Measured text c r = Replied measured_labels said_measured Measured text c r

-- a table has no answer yet; any other file is a text of the kind that is asked for
abbrev pub FileReplied : Request → List ℕ → Result Reply Cause → Type 0
FileReplied q file r = (table_head file ≡ true → r ≡ Err Table) × (table_head file ≡ false → RepliedAs q.kind file q.command r)
