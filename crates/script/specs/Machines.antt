-- The machine of a node list.
use Rattle.std.specs.Prelude.{◌≡◌, ℕ, ◌+◌, ◌≤◌, Bool, true, List, is_some, Some, None, Option}
use Rattle.std.specs.List.{list_all}
use Rattle.std.specs.Option.{option_and_then}
use Rattle.automata.specs.declared.Move.{Move}
use Rattle.automata.specs.declared.Move.TheVariants.{Reject}
use Rattle.automata.specs.declared.Label.{Ghosts as LabelGhosts}
use Rattle.automata.specs.Walks.{machine_move, labelled}
use Rattle.labels.specs.declared.Order.{Order as Said}
use Rattle.labels.specs.Kinds.{order_bytes}
use Rattle.script.specs.declared.lent.Script.{Script}
use Rattle.script.specs.declared.node.Node.{Node}
use Rattle.script.specs.declared.node.Node.TheVariants.{Order}
use Rattle.script.specs.Trees.{Tree, steps, orders, expr_of, every_order}
use Rattle.script.specs.Lists.{Holds, most_steps, script_in}

-- the move of a state of the script in a list, with its orders as the script says them
abbrev pub script_move : Option Tree → ℕ → ℕ → Move Said
script_move None s a = Reject
script_move (Some t) s a = machine_move (expr_of t) s a

-- whether each order among the nodes passes a test
abbrev pub passes : (Said → Bool) → Node → Bool
passes p (Order o) = p o
passes p _ = true

-- the same of each node of a list
abbrev pub every_node : (Said → Bool) → List Node → Bool
every_node p ns = list_all (passes p) ns

-- one state for the start, and one after each order
abbrev pub size_on : Option Tree → ℕ
size_on None = 0
size_on (Some t) = 1 + orders t

-- the tree of a machine's script, if it has a script
abbrev pub tree_of : Option Script → Option Tree
tree_of o = option_and_then (λ s. script_in s.nodes.now) o

module _ {L : Type 0} (l : LabelGhosts L) where
  -- the label of a kind that an order's bytes make, if any
  abbrev pub label_of : Said → Option L
  label_of o = l.made (order_bytes o)

  -- whether an order has a label of the kind
  abbrev pub of_kind : Said → Bool
  of_kind o = is_some (label_of o)

  -- the list is one whole script of the kind, of at most 255 steps
  pub record Whole (ns : List Node) (t : Tree) : Type 0 where
    pub holds : Holds ns t
    pub few : steps t ≤ most_steps
    pub kind : every_order of_kind t ≡ true

  -- the same moves, with labels of the kind
  abbrev pub moves_in : Option Tree → ℕ → ℕ → Move L
  moves_in o s a = labelled label_of (script_move o s a)

  -- the machine of a list: that of the script that it holds, and void if it is no whole script of the kind
  pub record MachineOf (ns : List Node) (size : ℕ) (moves : ℕ → ℕ → Move L) : Type 0 where
    pub whole : (t : Tree) → Whole ns t → (size ≡ 1 + orders t) × ((s a : ℕ) → moves s a ≡ labelled label_of (machine_move (expr_of t) s a))
    pub void : ((t : Tree) → Whole ns t → ⊥) → size ≡ 0
