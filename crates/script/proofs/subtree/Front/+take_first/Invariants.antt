use Rattle.std.proofs.Common.{length}
use Rattle.script.proofs.subtree.Front.+take_first.Given as goal

abbrev pub decreases-take_first : goal.decreases-take_first
decreases-take_first l = length l.self.now.nodes.now
