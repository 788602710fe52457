use Rattle.std.proofs.Common.{◌≡◌, take, replicate}
use Rattle.script.specs.declared.node.Node.TheVariants.{Blank}
use Rattle.reading.proofs.blank_out.Given as goal

abbrev pub invariant-loop-node : goal.invariant-loop-node
invariant-loop-node l = take l.node-index l.nodes ≡ replicate l.node-index Blank
