-- The spot that goes with a refusal.
use Rattle.std.specs.Prelude.{◌≡◌, ℕ, List, take, Some, None, Option}
use Rattle.automata.specs.Faults.{place_of}
use Rattle.marker.specs.declared.failure.Cause.{Cause}
use Rattle.marker.specs.declared.failure.Cause.TheVariants.{Unreadable, Table, Unanswered}
use Rattle.answers.specs.declared.Cause.TheVariants.{Refused, Memory}
use Rattle.requests.specs.declared.spot.Spot.{Spot}
use Rattle.requests.specs.Places.{breaks, since}

-- the lines and bytes before a place, if there is one
abbrev pub AtPlace : Option ℕ → List ℕ → Option Spot → Type 0
AtPlace None text s = s ≡ None
AtPlace (Some p) text None = ⊥
AtPlace (Some p) text (Some s) = (s.lines ≡ breaks 0 (take p text)) × (s.bytes ≡ since 0 (take p text))

-- only a refusal has a spot, that of its place
abbrev pub Spotted : Cause → List ℕ → Option Spot → Type 0
Spotted Unreadable text s = s ≡ None
Spotted Table text s = s ≡ None
Spotted (Unanswered (Refused fault)) text s = AtPlace (place_of fault) text s
Spotted (Unanswered Memory) text s = s ≡ None
