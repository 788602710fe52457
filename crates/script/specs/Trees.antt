-- What a script says, as a tree: its steps, its orders, and the expression that it stands for.
use Rattle.std.specs.Prelude.{ℕ, ◌+◌, Bool, true, ◌&&◌}
use Rattle.atoms.specs.Sets.{member, every}
use Rattle.automata.specs.Expressions.{Expr, order, test, seq, choice, while}
use Rattle.labels.specs.declared.Order.{Order}

-- an order; a test of a set of atoms; one after the other; `if` with an `else`; `if` without; `while`
pub data Tree : Type 0 where
  ordered : Order → Tree
  tested : ℕ → Tree
  joined : Tree → Tree → Tree
  branched : ℕ → Tree → Tree → Tree
  guarded : ℕ → Tree → Tree
  looped : ℕ → Tree → Tree

-- how many steps; a missing `else` is none
abbrev pub steps : Tree → ℕ
steps (ordered o) = 1
steps (tested s) = 1
steps (joined l r) = steps l + steps r
steps (branched s l r) = 1 + steps l + steps r
steps (guarded s l) = 1 + steps l
steps (looped s l) = 1 + steps l

-- how many orders
abbrev pub orders : Tree → ℕ
orders (ordered o) = 1
orders (tested s) = 0
orders (joined l r) = orders l + orders r
orders (branched s l r) = orders l + orders r
orders (guarded s l) = orders l
orders (looped s l) = orders l

-- the expression that the tree stands for; a missing `else` is `skip`, the test of every atom
abbrev pub expr_of : Tree → Expr Order
expr_of (ordered o) = order o
expr_of (tested s) = test (member s)
expr_of (joined l r) = seq (expr_of l) (expr_of r)
expr_of (branched s l r) = choice (member s) (expr_of l) (expr_of r)
expr_of (guarded s l) = choice (member s) (expr_of l) (test (member every))
expr_of (looped s l) = while (member s) (expr_of l)

-- whether each order passes a test
abbrev pub every_order : (Order → Bool) → Tree → Bool
every_order p (ordered o) = p o
every_order p (tested s) = true
every_order p (joined l r) = every_order p l && every_order p r
every_order p (branched s l r) = every_order p l && every_order p r
every_order p (guarded s l) = every_order p l
every_order p (looped s l) = every_order p l
