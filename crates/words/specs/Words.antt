-- The known words.
use Rattle.std.specs.Prelude.{ℕ, cond, List, Some, None, codes, Option}
use Rattle.std.specs.Str.{bytes_eq}
use Rattle.atoms.specs.declared.Test.{Test as GalleyTest}
use Rattle.atoms.specs.declared.Test.TheVariants.{Widow, Orphan, Head, Figure, Note, Last}
use Rattle.labels.specs.declared.Verb.{Verb as OrderVerb}
use Rattle.labels.specs.declared.Verb.TheVariants.{Line, Page, Column, Float, Foot, Feather, Tight, Loose, Hyphen, Rule, Blank, Run}
use Rattle.words.specs.declared.Word.{Word}
use Rattle.words.specs.declared.Word.TheVariants.{Test, Verb, If, Else, While, Skip, Stop, By, P}

-- the test that a word names, if there is one
abbrev pub test_of : List ℕ → Option GalleyTest
test_of w =
    cond (bytes_eq w (codes "widow")) (Some Widow) (cond (bytes_eq w (codes "orphan")) (Some Orphan) (cond (bytes_eq w (codes "head")) (Some Head)
    (cond (bytes_eq w (codes "figure")) (Some Figure) (cond (bytes_eq w (codes "note")) (Some Note) (cond (bytes_eq w (codes "last")) (Some Last) None)))))

-- the verb that a word names, if there is one
abbrev pub verb_of : List ℕ → Option OrderVerb
verb_of w =
    cond (bytes_eq w (codes "line")) (Some Line) (cond (bytes_eq w (codes "page")) (Some Page) (cond (bytes_eq w (codes "column")) (Some Column)
    (cond (bytes_eq w (codes "float")) (Some Float) (cond (bytes_eq w (codes "foot")) (Some Foot) (cond (bytes_eq w (codes "feather")) (Some Feather)
    (cond (bytes_eq w (codes "tight")) (Some Tight) (cond (bytes_eq w (codes "loose")) (Some Loose) (cond (bytes_eq w (codes "hyphen")) (Some Hyphen)
    (cond (bytes_eq w (codes "rule")) (Some Rule) (cond (bytes_eq w (codes "blank")) (Some Blank) (cond (bytes_eq w (codes "run")) (Some Run) None)))))))))))

-- the word of the grammar itself, if it is one
abbrev pub keyword_of : List ℕ → Option Word
keyword_of w =
    cond (bytes_eq w (codes "if")) (Some If) (cond (bytes_eq w (codes "else")) (Some Else) (cond (bytes_eq w (codes "while")) (Some While)
    (cond (bytes_eq w (codes "skip")) (Some Skip) (cond (bytes_eq w (codes "stop")) (Some Stop) (cond (bytes_eq w (codes "by")) (Some By)
    (cond (bytes_eq w (codes "p")) (Some P) None))))))

-- a verb, or else the word
abbrev pub or_verb : Option OrderVerb → Option Word → Option Word
or_verb (Some v) k = Some (Verb v)
or_verb None k = k

-- a test, or else the word
abbrev pub or_test : Option GalleyTest → Option Word → Option Word
or_test (Some t) k = Some (Test t)
or_test None k = k

-- the known word that these letters spell, if there is one
unfoldable pub word_of : List ℕ → Option Word
word_of w = or_test (test_of w) (or_verb (verb_of w) (keyword_of w))
