-- A mark and its byte belong to each other, so two marks are one exactly if their bytes are equal: what `==` on marks says.
use Rattle.std.proofs.Common.{◌≡◌, Some, sym, refl, ap, ◌∙◌}
use Rattle.std.specs.Prelude.{Decides}
use Rattle.std.proofs.lemmas.Bool.Decides.{Decides-eqb}
use Rattle.tokens.specs.declared.Mark.{Mark}
use Rattle.tokens.specs.declared.Mark.TheVariants.{OpenBrace, CloseBrace, OpenParen, CloseParen, OpenBracket, CloseBracket, Semicolon, Not, And, Or, Minus}
use Rattle.tokens.specs.Classes.{mark_byte, mark_of, same_mark}

pub mark_of_byte : (m : Mark) → mark_of (mark_byte m) ≡ Some m
mark_of_byte OpenBrace = refl
mark_of_byte CloseBrace = refl
mark_of_byte OpenParen = refl
mark_of_byte CloseParen = refl
mark_of_byte OpenBracket = refl
mark_of_byte CloseBracket = refl
mark_of_byte Semicolon = refl
mark_of_byte Not = refl
mark_of_byte And = refl
mark_of_byte Or = refl
mark_of_byte Minus = refl

pub mark_by_byte : (m n : Mark) → mark_byte m ≡ mark_byte n → m ≡ n
mark_by_byte m n e = let s = sym (mark_of_byte m) ∙ ap mark_of e ∙ mark_of_byte n in cc

pub same_mark_tells : (m n : Mark) → Decides (same_mark m n) (m ≡ n)
same_mark_tells m n = let d = Decides-eqb (mark_byte m) (mark_byte n) in (λ e. mark_by_byte m n (d.0 e), λ e. d.1 (ap mark_byte e))
