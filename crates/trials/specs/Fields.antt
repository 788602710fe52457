-- Numbers in the fields of a line.
use Rattle.std.specs.Prelude.{◌≡◌, ℕ, List, [], ◌∷◌, ⊤}
use Rattle.std.specs.Str.Parse.{IsNumeral, without_leading_plus, digits_value}

-- the field is decimal digits, behind a plus if one stands there, and they write the number
abbrev pub Writes : ℕ → List ℕ → Type 0
Writes n field = IsNumeral 10 (without_leading_plus field) × (digits_value 10 (without_leading_plus field) ≡ n)

-- each field writes the number at its place, and there are as many of both
abbrev pub AllWritten : List ℕ → List (List ℕ) → Type 0
AllWritten [] [] = ⊤
AllWritten [] (f ∷ fields) = ⊥
AllWritten (n ∷ ns) [] = ⊥
AllWritten (n ∷ ns) (f ∷ fields) = Writes n f × AllWritten ns fields
