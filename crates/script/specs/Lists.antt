-- A tree in a list of nodes: each node after those below it, the rest of the list blank.
use Rattle.std.specs.Prelude.{◌≡◌, ℕ, ◌+◌, Bool, true, false, cond, not, List, [], ◌∷◌, ◌++◌, Some, None, Option, nat_le}
use Rattle.std.specs.List.{prefix_len, list_all}
use Rattle.std.specs.Option.{option_and_then}
use Rattle.script.specs.declared.node.Node.{Node}
use Rattle.script.specs.declared.node.Node.TheVariants.{Blank, Order, Test, Sequence, If, When, While}
use Rattle.script.specs.Trees.{Tree, ordered, tested, joined, branched, guarded, looped, steps, orders}

-- the most steps of a script
abbrev pub most_steps : ℕ
most_steps = 255

-- the nodes of a tree, each after those below it
abbrev pub code : Tree → List Node
code (ordered o) = Order o ∷ []
code (tested s) = Test (record { bits = s }) ∷ []
code (joined l r) = code l ++ (code r ++ (Sequence ∷ []))
code (branched s l r) = code l ++ (code r ++ (If (record { bits = s }) ∷ []))
code (guarded s l) = code l ++ (When (record { bits = s }) ∷ [])
code (looped s l) = code l ++ (While (record { bits = s }) ∷ [])

-- whether a node is blank
abbrev pub blank_node : Node → Bool
blank_node Blank = true
blank_node _ = false

-- whether each node of a list is blank
abbrev pub all_blank : List Node → Bool
all_blank ns = list_all blank_node ns

-- the list is the tree's nodes, and every node behind them is blank
pub record Holds (ns : List Node) (t : Tree) : Type 0 where
  pub rest : List Node
  pub nodes : ns ≡ code t ++ rest
  pub blanks : all_blank rest ≡ true

-- the nearest tree changed, if there is one
abbrev pub one : (Tree → Tree) → List Tree → Option (List Tree)
one f [] = None
one f (l ∷ st) = Some (f l ∷ st)

-- the two nearest trees made one, if there are two
abbrev pub two : (Tree → Tree → Tree) → List Tree → Option (List Tree)
two f [] = None
two f (r ∷ []) = None
two f (r ∷ l ∷ st) = Some (f l r ∷ st)

-- what a node makes of the trees before it, the nearest first
abbrev pub grown : Node → List Tree → Option (List Tree)
grown Blank st = None
grown (Order o) st = Some (ordered o ∷ st)
grown (Test s) st = Some (tested s.bits ∷ st)
grown Sequence st = two joined st
grown (If s) st = two (branched s.bits) st
grown (When s) st = one (guarded s.bits) st
grown (While s) st = one (looped s.bits) st

-- what nodes make of the trees before them; none if one of the nodes lacks trees
abbrev pub made : List Node → List Tree → Option (List Tree)
made [] st = Some st
made (n ∷ ns) st = option_and_then (made ns) (grown n st)

-- the one tree that is left at the end
abbrev pub alone : List Tree → Option Tree
alone [] = None
alone (t ∷ []) = Some t
alone (t ∷ u ∷ st) = None

-- a tree, if what stands behind it is blank
abbrev pub when_blank : Bool → Option Tree → Option Tree
when_blank true t = t
when_blank false t = None

-- go on with the trees, if there are any
abbrev pub going_on : (List Tree → Option Tree) → Option (List Tree) → Option Tree
going_on next None = None
going_on next (Some st) = next st

-- at a blank node stop, else go on
abbrev pub parsed_on : Bool → Option Tree → Option Tree → Option Tree
parsed_on true stop go = stop
parsed_on false stop go = go

-- the tree in a list of nodes, after those trees
abbrev pub parsed : List Node → List Tree → Option Tree
parsed [] st = alone st
parsed (n ∷ ns) st = parsed_on (blank_node n) (when_blank (all_blank ns) (alone st)) (going_on (parsed ns) (grown n st))

-- a tree of at most 255 steps
abbrev pub few_steps : Option Tree → Option Tree
few_steps None = None
few_steps (Some t) = cond (nat_le (steps t) most_steps) (Some t) None

-- the whole script of at most 255 steps in a list, if it is one
unfoldable pub script_in : List Node → Option Tree
script_in ns = few_steps (parsed ns [])

-- how many nodes of a list are used, and how many of them are orders
abbrev pub used : List Node → ℕ
used ns = prefix_len (λ n. not (blank_node n)) ns

-- a list ends with the nodes of a tree; n orders stand before these, and k before the end of the list
pub record Ends (ns : List Node) (k : ℕ) (t : Tree) (front : List Node) (n : ℕ) : Type 0 where
  pub nodes : ns ≡ front ++ code t
  pub count : k ≡ n + orders t

-- the same of some tree
abbrev pub SomeTree : List Node → ℕ → Type 0
SomeTree ns k = (t : Tree) × (front : List Node) × (n : ℕ) × Ends ns k t front n
