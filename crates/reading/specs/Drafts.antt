-- A node list that is filled, and what goes into it.
use Rattle.std.specs.Prelude.{◌≡◌, ℕ, [], ◌∷◌, Ok, Err, Result}
use Rattle.automata.specs.declared.Fault.{Fault}
use Rattle.labels.specs.declared.Order.{Order}
use Rattle.script.specs.declared.node.Node.{Node}
use Rattle.script.specs.Trees.{Tree, steps}
use Rattle.script.specs.Lists.{code}
use Rattle.tokens.specs.Streams.{Stream}
use Rattle.conditions.specs.Outcomes.{Out}

-- the fixed length of a node list
abbrev pub node_records : ℕ
node_records = 1024

-- the one node of a step without a block
abbrev pub Planted : Out Tree → Stream → Result Node Fault → Type 0
Planted o rest (Ok n) = (t : Tree) × (o ≡ Ok (t, rest)) × (code t ≡ n ∷ []) × (steps t ≡ 1)
Planted o rest (Err f) = o ≡ Err f

-- the outcome of an order
abbrev pub Ordered : Out Order → Stream → Result Order Fault → Type 0
Ordered o rest (Ok x) = o ≡ Ok (x, rest)
Ordered o rest (Err f) = o ≡ Err f
