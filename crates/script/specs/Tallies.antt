-- The trees that nodes make, in numbers.
use Rattle.std.specs.Prelude.{◌≡◌, ℕ, ◌+◌, List, [], ◌∷◌, length, take, Some, None, Option}
use Rattle.script.specs.declared.node.Node.{Node}
use Rattle.script.specs.declared.Tally.{Tally}
use Rattle.script.specs.Trees.{Tree, steps, orders}
use Rattle.script.specs.Lists.{grown, made, used}

-- the steps of several trees
abbrev pub total_steps : List Tree → ℕ
total_steps [] = 0
total_steps (t ∷ st) = steps t + total_steps st

-- the orders of several trees
abbrev pub total_orders : List Tree → ℕ
total_orders [] = 0
total_orders (t ∷ st) = orders t + total_orders st

-- trees, the nearest first, by how many there are, their steps and their orders
pub record Tallied (st : List Tree) (height steps' orders' : ℕ) : Type 0 where
  pub many : length st ≡ height
  pub steps_are : total_steps st ≡ steps'
  pub orders_are : total_orders st ≡ orders'

-- trees or none, in numbers
abbrev pub Numbered : Option (List Tree) → Option Tally → Type 0
Numbered o None = o ≡ None
Numbered o (Some y) = (st : List Tree) × (o ≡ Some st) × Tallied st y.height y.steps y.orders

-- what the used nodes of a list make
abbrev pub made_used : List Node → List Tree → Option (List Tree)
made_used ns st = made (take (used ns) ns) st

-- the trees of the used nodes of a list, in numbers, and how many these nodes are
abbrev pub NumberedUsed : List Node → Option (Tally × ℕ) → Type 0
NumberedUsed ns None = made_used ns [] ≡ None
NumberedUsed ns (Some x) = Numbered (made_used ns []) (Some x.0) × (x.1 ≡ used ns)

-- what a node does to the trees before it, in numbers
abbrev pub Grows : Node → List Tree → Option Tally → Type 0
Grows n st r = Numbered (grown n st) r
