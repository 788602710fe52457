-- What the words of a command line write: atoms.
use Rattle.std.specs.Prelude.{ℕ, ◌+◌, ◌-◌, ◌*◌, cond, ◌&&◌, List, [], ◌∷◌, ◌++◌, length, Some, None, codes, Option, ◌==◌, nat_le}
use Rattle.std.specs.Str.{bytes_eq}
use Rattle.atoms.specs.declared.Test.{Test as GalleyTest}
use Rattle.atoms.specs.Atoms.{weight_of, holds_at}
use Rattle.words.specs.declared.Word.{Word}
use Rattle.words.specs.declared.Word.TheVariants.{Test, Verb, If, Else, While, Skip, Stop, By, P}
use Rattle.words.specs.Words.{word_of}

-- a number with one decimal digit more, up to 255
abbrev pub append_digit : ℕ → ℕ → Option ℕ
append_digit n b = cond (nat_le 48 b && nat_le b 57 && nat_le (10 * n + (b - 48)) 255) (Some (10 * n + (b - 48))) None

-- the number that digits write, behind those that were read
abbrev pub digits_on : Option ℕ → List ℕ → Option ℕ
digits_on None rest = None
digits_on (Some n) [] = Some n
digits_on (Some n) (b ∷ bs) = digits_on (append_digit n b) bs

-- the number that a word of one digit or more writes
abbrev pub number_written : List ℕ → Option ℕ
number_written w = cond (length w == 0) None (digits_on (Some 0) w)

-- a known word as a test
abbrev pub as_test : Option Word → Option GalleyTest
as_test None = None
as_test (Some (Test t)) = Some t
as_test (Some (Verb v)) = None
as_test (Some If) = None
as_test (Some Else) = None
as_test (Some While) = None
as_test (Some Skip) = None
as_test (Some Stop) = None
as_test (Some By) = None
as_test (Some P) = None

-- the test that letters name
abbrev pub test_in : List ℕ → Option GalleyTest
test_in w = as_test (word_of w)

-- the atom a with one test more, which did not hold
abbrev pub joined : ℕ → Option GalleyTest → Option ℕ
joined a None = None
joined a (Some t) = cond (holds_at t a) None (Some (a + weight_of t))

-- the atom of tests joined by `+`: a of those before, then the letters so far, then the rest of the word
abbrev pub tests_on : Option ℕ → List ℕ → List ℕ → Option ℕ
tests_on None w rest = None
tests_on (Some a) w [] = joined a (test_in w)
tests_on (Some a) w (b ∷ bs) = cond (b == 43) (tests_on (joined a (test_in w)) [] bs) (tests_on (Some a) (w ++ b ∷ []) bs)

-- the first number that there is
abbrev pub or_else : Option ℕ → Option ℕ → Option ℕ
or_else (Some n) o = Some n
or_else None o = o

-- the atom that a word writes: `none`, a number, or tests
abbrev pub word_atom : List ℕ → Option ℕ
word_atom w = cond (bytes_eq w (codes "none")) (Some 0) (or_else (number_written w) (tests_on (Some 0) [] w))
