use Rattle.std.proofs.Common.{length}
use Rattle.script.proofs.subtree.Subtree.+after.Given as goal

abbrev pub decreases-after : goal.decreases-after
decreases-after l = length l.self.front.nodes.now
