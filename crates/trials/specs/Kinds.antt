-- The numbers of the kinds of label, as a file writes them.
use Rattle.std.specs.Prelude.{◌≡◌, ℕ, List, codes}
use Rattle.labels.specs.declared.Kind.{Kind}
use Rattle.labels.specs.declared.Kind.TheVariants.{Bare, Measured}

-- the text of the number of a kind
abbrev pub Numbers : Kind → List ℕ → Type 0
Numbers Bare field = field ≡ codes "1"
Numbers Measured field = field ≡ codes "2"
