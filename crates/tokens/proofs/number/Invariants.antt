use Rattle.std.proofs.Common.{◌≡◌, ◌^◌, ◌<◌, take}
use Rattle.tokens.specs.Tokens.{decimal}
use Rattle.tokens.proofs.number.Given as goal

abbrev pub invariant-loop-d : goal.invariant-loop-d
invariant-loop-d l = (l.value ≡ decimal (take l.d-index l.digits)) × (l.value < 10 ^ l.d-index)
