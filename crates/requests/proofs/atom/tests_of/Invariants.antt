use Rattle.std.proofs.Common.{◌<◌}
use Rattle.requests.proofs.Parts.{Reads}
use Rattle.requests.proofs.atom.tests_of.Given as goal

abbrev pub invariant-loop-letters : goal.invariant-loop-letters
invariant-loop-letters l = (l.atom < 64) × Reads l.atom l.yielded l.word
