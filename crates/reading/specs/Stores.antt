-- What a part of a script leaves in the node list.
use Rattle.std.specs.Prelude.{◌≡◌, ℕ, ◌+◌, List, [], ◌∷◌, ◌++◌, length, take, Ok, Err, Result}
use Rattle.std.specs.Borrow.{MutBor}
use Rattle.automata.specs.declared.Fault.{Fault}
use Rattle.script.specs.declared.node.Node.{Node}
use Rattle.script.specs.Trees.{Tree, steps}
use Rattle.script.specs.Lists.{code}
use Rattle.tokens.specs.Streams.{left}
use Rattle.reading.specs.declared.parser.Parser.{Parser}
use Rattle.conditions.specs.Outcomes.{Out}

-- a node list, how far it is filled, and how many steps are counted
pub record Draft : Type 0 where
  pub nodes : MutBor (List Node)
  pub used : ℕ
  pub counted : ℕ

-- those of a parser
abbrev pub draft : Parser → Draft
draft p = record { nodes = p.nodes; used = p.used; counted = p.steps }

-- one step more, and all else as it was
pub record Counted (before after : Parser) : Type 0 where
  pub reader : after.reader ≡ before.reader
  pub kind : after.kind ≡ before.kind
  pub list : after.nodes ≡ before.nodes
  pub fill : after.used ≡ before.used
  pub count : after.steps ≡ before.steps + 1

-- one node more, in the same list, and all else as it was
pub record Pushed (before : Parser) (n : Node) (after : Parser) : Type 0 where
  pub reader : after.reader ≡ before.reader
  pub kind : after.kind ≡ before.kind
  pub list : after.nodes.ghost_name ≡ before.nodes.ghost_name
  pub nodes : take after.used after.nodes.now ≡ take before.used before.nodes.now ++ (n ∷ [])
  pub fill : after.used ≡ before.used + 1
  pub count : after.steps ≡ before.steps

-- the nodes of a tree stand behind those before, in the same list; c of its steps were counted before
pub record Stored (c : ℕ) (before after : Draft) (t : Tree) : Type 0 where
  pub list : after.nodes.ghost_name ≡ before.nodes.ghost_name
  pub nodes : take after.used after.nodes.now ≡ take before.used before.nodes.now ++ code t
  pub fill : after.used ≡ before.used + length (code t)
  pub count : after.counted + c ≡ before.counted + steps t

-- the tree of the outcome is stored, and the kind stays; a fault is the outcome's
abbrev pub Drafted : {U : Type 0} → ℕ → Out Tree → Parser → Parser → Result U Fault → Type 0
Drafted c o before after (Ok u) = (t : Tree) × (o ≡ Ok (t, left after.reader)) × (after.kind ≡ before.kind) × Stored c (draft before) (draft after) t
Drafted c o before after (Err f) = o ≡ Err f
