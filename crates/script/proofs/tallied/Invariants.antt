use Rattle.script.proofs.Tallies.{Reached}
use Rattle.script.proofs.tallied.Given as goal

abbrev pub invariant-loop-used : goal.invariant-loop-used
invariant-loop-used l = Reached l.nodes l.used l.tally
