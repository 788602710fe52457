-- The tests of a galley, and atoms: which of them hold.
use Rattle.std.specs.Prelude.{ℕ, ◌/◌, ◌%◌, ◌^◌, Bool, List, codes, ◌==◌}
use Rattle.atoms.specs.declared.Test.{Test}
use Rattle.atoms.specs.declared.Test.TheVariants.{Widow, Orphan, Head, Figure, Note, Last}

-- how many tests there are
abbrev pub tests : ℕ
tests = 6

-- how many atoms there are: each test holds or does not
abbrev pub atoms : ℕ
atoms = 2 ^ tests

-- the number that a test adds to an atom at which it holds
abbrev pub weight_of : Test → ℕ
weight_of Widow = 1
weight_of Orphan = 2
weight_of Head = 4
weight_of Figure = 8
weight_of Note = 16
weight_of Last = 32

-- the word that a script writes for a test
abbrev pub name_of : Test → List ℕ
name_of Widow = codes "widow"
name_of Orphan = codes "orphan"
name_of Head = codes "head"
name_of Figure = codes "figure"
name_of Note = codes "note"
name_of Last = codes "last"

-- whether the test holds at the atom, which is the sum of the weights of the tests that do
abbrev pub holds_at : Test → ℕ → Bool
holds_at t a = a / weight_of t % 2 == 1
