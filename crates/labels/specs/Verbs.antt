-- The twelve verbs: the byte of each, and its name.
use Rattle.std.specs.Prelude.{◌≡◌, ℕ, cond, List, Some, None, codes, Ok, Err, Option, Result, ◌==◌}
use Rattle.labels.specs.declared.Verb.{Verb}
use Rattle.labels.specs.declared.UnknownVerb.{UnknownVerb}
use Rattle.labels.specs.declared.Verb.TheVariants.{Line, Page, Column, Float, Foot, Feather, Tight, Loose, Hyphen, Rule, Blank, Run}

-- the byte of a verb
abbrev pub byte_of : Verb → ℕ
byte_of Line = 1
byte_of Page = 2
byte_of Column = 3
byte_of Float = 4
byte_of Foot = 5
byte_of Feather = 6
byte_of Tight = 7
byte_of Loose = 8
byte_of Hyphen = 9
byte_of Rule = 10
byte_of Blank = 11
byte_of Run = 12

-- the verb of a byte, if there is one
abbrev pub verb_of : ℕ → Option Verb
verb_of b =
    cond (b == 1) (Some Line) (cond (b == 2) (Some Page) (cond (b == 3) (Some Column) (cond (b == 4) (Some Float)
    (cond (b == 5) (Some Foot) (cond (b == 6) (Some Feather) (cond (b == 7) (Some Tight) (cond (b == 8) (Some Loose)
    (cond (b == 9) (Some Hyphen) (cond (b == 10) (Some Rule) (cond (b == 11) (Some Blank) (cond (b == 12) (Some Run) None)))))))))))

-- the verb of a byte, or the byte that is no verb's
abbrev pub VerbOf : ℕ → Result Verb UnknownVerb → Type 0
VerbOf b (Ok v) = verb_of b ≡ Some v
VerbOf b (Err e) = (verb_of b ≡ None) × (e.0 ≡ b)

-- the word that a script writes for a verb
abbrev pub name_of : Verb → List ℕ
name_of Line = codes "line"
name_of Page = codes "page"
name_of Column = codes "column"
name_of Float = codes "float"
name_of Foot = codes "foot"
name_of Feather = codes "feather"
name_of Tight = codes "tight"
name_of Loose = codes "loose"
name_of Hyphen = codes "hyphen"
name_of Rule = codes "rule"
name_of Blank = codes "blank"
name_of Run = codes "run"
