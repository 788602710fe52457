use Rattle.std.proofs.Common.{◌≡◌, ◌≤◌, drop}
use Rattle.requests.specs.Places.{breaks, since}
use Rattle.requests.proofs.spot.Spot.of.Given as goal

abbrev pub invariant-loop-b : goal.invariant-loop-b
invariant-loop-b l =
    (l.spot.lines ≤ l.b-index) × (l.spot.bytes ≤ l.b-index)
    × (breaks l.spot.lines (drop l.b-index l.before) ≡ breaks 0 l.before)
    × (since l.spot.bytes (drop l.b-index l.before) ≡ since 0 l.before)
