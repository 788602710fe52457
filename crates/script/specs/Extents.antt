-- How much of a node list its script takes.
use Rattle.std.specs.Prelude.{List, Option, option_map}
use Rattle.script.specs.declared.Extent.{Extent}
use Rattle.script.specs.declared.node.Node.{Node}
use Rattle.script.specs.Trees.{Tree, orders}
use Rattle.script.specs.Lists.{script_in, used}

-- the used nodes and the orders of the script in a list, if there is one
abbrev pub extent_on : List Node → Option Tree → Option Extent
extent_on ns o = option_map (λ t. record { used = used ns; orders = orders t }) o

-- the same of a list
abbrev pub extent_of : List Node → Option Extent
extent_of ns = extent_on ns (script_in ns)
