-- How escaped text is read, byte by byte.
use Rattle.std.specs.Prelude.{ℕ, ◌+◌, ◌-◌, ◌*◌, ◌%◌, cond, ◌&&◌, List, [], ◌∷◌, ◌++◌, Some, None, Option, ◌==◌, nat_le}
use Rattle.std.specs.Option.{option_map}
use Rattle.trials.specs.declared.escape.Escape.{Escape}
use Rattle.trials.specs.declared.escape.Escape.TheVariants.{Nothing, Backslash, Hex, HexDigit}
use Rattle.trials.specs.declared.escape.Step.{Step}
use Rattle.trials.specs.declared.escape.Step.TheVariants.{On, Byte}

-- the value of a hexadecimal digit
abbrev pub hex_of : ℕ → Option ℕ
hex_of b = cond (nat_le 48 b && nat_le b 57) (Some (b - 48)) (cond (nat_le 97 b && nat_le b 102) (Some (b - 97 + 10)) None)

-- what one more byte makes of an escape, if the escape goes on with it
abbrev pub step_of : Escape → ℕ → Option Step
step_of Nothing b = Some (cond (b == 92) (On Backslash) (Byte b))
step_of Backslash b =
    cond (b == 116) (Some (Byte 9)) (cond (b == 110) (Some (Byte 10)) (cond (b == 92) (Some (Byte 92)) (cond (b == 120) (Some (On Hex)) None)))
step_of Hex b = option_map (λ h. On (HexDigit h)) (hex_of b)
step_of (HexDigit h) b = option_map (λ l. Byte ((h * 16 % 256 + l) % 256)) (hex_of b)

-- what the end of the text makes: it may not stand in an escape
abbrev pub end_of : List ℕ → Escape → Option (List ℕ)
end_of bytes Nothing = Some bytes
end_of bytes Backslash = None
end_of bytes Hex = None
end_of bytes (HexDigit h) = None

-- the bytes so far with those of the rest of a text, from what its last byte made
abbrev pub read_on : List ℕ → Option Step → List ℕ → Option (List ℕ)
read_on bytes None rest = None
read_on bytes (Some (On e)) [] = end_of bytes e
read_on bytes (Some (On e)) (b ∷ rest) = read_on bytes (step_of e b) rest
read_on bytes (Some (Byte x)) [] = Some (bytes ++ x ∷ [])
read_on bytes (Some (Byte x)) (b ∷ rest) = read_on (bytes ++ x ∷ []) (step_of Nothing b) rest

-- the bytes that an escaped text stands for, if it is one
abbrev pub unescaped : List ℕ → Option (List ℕ)
unescaped text = read_on [] (Some (On Nothing)) text
