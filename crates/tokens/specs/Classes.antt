-- Which bytes are blanks, letters and digits, and the byte of each mark.
use Rattle.std.specs.Prelude.{ℕ, Bool, cond, ◌&&◌, ◌||◌, Some, None, Option, ◌==◌, nat_le}
use Rattle.tokens.specs.declared.Mark.{Mark}
use Rattle.tokens.specs.declared.Mark.TheVariants.{OpenBrace, CloseBrace, OpenParen, CloseParen, OpenBracket, CloseBracket, Semicolon, Not, And, Or, Minus}

-- blanks are the bytes 9, 10 and 32
abbrev pub is_blank : ℕ → Bool
is_blank b = b == 9 || b == 10 || b == 32

-- letters are a to z
abbrev pub is_letter : ℕ → Bool
is_letter b = nat_le 97 b && nat_le b 122

-- digits are 0 to 9
abbrev pub is_digit : ℕ → Bool
is_digit b = nat_le 48 b && nat_le b 57

-- the byte that writes a mark
abbrev pub mark_byte : Mark → ℕ
mark_byte OpenBrace = 123
mark_byte CloseBrace = 125
mark_byte OpenParen = 40
mark_byte CloseParen = 41
mark_byte OpenBracket = 91
mark_byte CloseBracket = 93
mark_byte Semicolon = 59
mark_byte Not = 33
mark_byte And = 38
mark_byte Or = 124
mark_byte Minus = 45

-- the mark that a byte writes, if there is one
abbrev pub mark_of : ℕ → Option Mark
mark_of b =
    cond (b == 123) (Some OpenBrace) (cond (b == 125) (Some CloseBrace) (cond (b == 40) (Some OpenParen) (cond (b == 41) (Some CloseParen)
    (cond (b == 91) (Some OpenBracket) (cond (b == 93) (Some CloseBracket) (cond (b == 59) (Some Semicolon) (cond (b == 33) (Some Not)
    (cond (b == 38) (Some And) (cond (b == 124) (Some Or) (cond (b == 45) (Some Minus) None))))))))))

-- whether two marks are one
abbrev pub same_mark : Mark → Mark → Bool
same_mark m n = mark_byte m == mark_byte n
