use Rattle.std.proofs.Common.{◌+◌, ◌*◌}
use Rattle.tokens.specs.Streams.{left, ahead}
use Rattle.reading.proofs.Growth.{Grown}
use Rattle.reading.proofs.parser.Parser.+block_branch_script_step.Given as goal

abbrev pub decreases-script : goal.decreases-script
decreases-script l = 4 * l.levels + 3

abbrev pub decreases-step : goal.decreases-step
decreases-step l = 4 * l.levels + 2

abbrev pub decreases-branch : goal.decreases-branch
decreases-branch l = 4 * l.levels + 1

abbrev pub decreases-block : goal.decreases-block
decreases-block l = 4 * l.levels

abbrev pub invariant-script-loop-self : goal.invariant-script-loop-self
invariant-script-loop-self l = Grown l.levels l.fn.self l.self

abbrev pub decreases-script-loop-self : goal.decreases-script-loop-self
decreases-script-loop-self l = ahead (left l.self.reader)
