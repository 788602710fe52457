-- The word of a test reads back as that test.
use Rattle.std.specs.Prelude.{◌≡◌, Some, refl}
use Rattle.atoms.specs.declared.Test.{Test}
use Rattle.atoms.specs.declared.Test.TheVariants.{Widow, Orphan, Head, Figure, Note, Last}
use Rattle.atoms.specs.Atoms.{name_of}
use Rattle.words.specs.Words.{word_of}
use Rattle.requests.specs.Words.{test_in}

-- reading the word of a test gives the test
pub name_read : (t : Test) → test_in (name_of t) ≡ Some t
unfolding word_of
name_read Widow = refl
name_read Orphan = refl
name_read Head = refl
name_read Figure = refl
name_read Note = refl
name_read Last = refl
