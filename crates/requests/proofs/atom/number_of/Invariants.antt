use Rattle.std.proofs.Common.{◌≡◌, drop, Some}
use Rattle.requests.specs.Words.{digits_on}
use Rattle.requests.proofs.atom.number_of.Given as goal

abbrev pub invariant-loop-b : goal.invariant-loop-b
invariant-loop-b l = digits_on (Some l.number) (drop l.b-index l.word) ≡ digits_on (Some 0) l.word
