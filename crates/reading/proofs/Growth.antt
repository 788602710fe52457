-- The steps of a script so far, in the node list, and what is still to come.
use Rattle.std.proofs.Common.{◌≡◌, ℕ}
use Rattle.script.specs.Trees.{Tree}
use Rattle.tokens.specs.declared.Mark.TheVariants.{Semicolon}
use Rattle.tokens.specs.Streams.{left}
use Rattle.reading.specs.declared.parser.Parser.{Parser}
use Rattle.conditions.specs.Outcomes.{chain}
use Rattle.reading.specs.Steps.{next_step, step_at, script_at}
use Rattle.reading.specs.Stores.{draft, Stored}

-- a tree is stored, and its script is what the steps that are to come make of it
pub record Grown (d : ℕ) (before now : Parser) : Type 0 where
  pub tree : Tree
  pub stored : Stored 0 (draft before) (draft now) tree
  pub kind : now.kind ≡ before.kind
  pub same : script_at before.kind d before.steps (left before.reader) ≡ chain Semicolon (next_step (step_at before.kind d) before.steps) tree (left now.reader)
