-- What the words of a command line ask for.
use Rattle.std.specs.Prelude.{◌≡◌, ℕ, List, [], ◌∷◌, map, Some, None, vec_items, string_bytes, codes, Option, String}
use Rattle.std.specs.Option.{unwrap_or, option_or}
use Rattle.std.specs.declared.alloc.Global.{Global}
use Rattle.labels.specs.declared.Kind.{Kind}
use Rattle.labels.specs.declared.Kind.TheVariants.{Measured}
use Rattle.requests.specs.declared.request.Command.{Command}
use Rattle.requests.specs.declared.request.Command.TheVariants.{Check, Run}
use Rattle.requests.specs.declared.request.Request.{Request}
use Rattle.labels.specs.Kinds.{kind_named}
use Rattle.requests.specs.Words.{word_atom}

-- the words begin with `--kind` and the number of this kind, or no kind is taken from them; the rest stands behind
abbrev pub Kinded : List (String Global) → Option Kind → List (String Global) → Type 0
Kinded words None rest = rest ≡ words
Kinded words (Some k) rest =
    (o : String Global) × (n : String Global) × (words ≡ o ∷ n ∷ rest) × (string_bytes o ≡ codes "--kind") × (kind_named (string_bytes n) ≡ Some k)

-- each word writes the atom at its place
abbrev pub Atoms : List (String Global) → List ℕ → Type 0
Atoms words atoms = map (λ w. word_atom (string_bytes w)) words ≡ map Some atoms

-- the word of a command, and the words behind the file
abbrev pub Commanded : List ℕ → List (String Global) → Command → Type 0
Commanded name rest Check = (name ≡ codes "check") × (rest ≡ [])
Commanded name rest (Run atoms) = (name ≡ codes "run") × Atoms rest (vec_items atoms)

-- a kind may stand before the command and behind it, where it counts; labels are measured where none stands
pub record Asked (words : List (String Global)) (q : Request) : Type 0 where
  pub before : Option Kind
  pub after : Option Kind
  pub name : String Global
  pub file : String Global
  pub behind : List (String Global)
  pub rest : List (String Global)
  pub first : Kinded words before (name ∷ behind)
  pub second : Kinded behind after (file ∷ rest)
  pub kind : q.kind ≡ unwrap_or (option_or after before) Measured
  pub command : Commanded (string_bytes name) rest q.command
  pub reads : string_bytes q.file ≡ string_bytes file
