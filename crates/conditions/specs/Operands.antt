-- What the first token of an operand decides.
use Rattle.std.specs.Prelude.{cond, Ok, Err, ◌==◌}
use Rattle.atoms.specs.Sets.{every, set_of}
use Rattle.automata.specs.declared.Fault.TheVariants.{Unexpected}
use Rattle.tokens.specs.declared.Mark.TheVariants.{OpenBrace, CloseBrace, OpenParen, CloseParen, OpenBracket, CloseBracket, Semicolon, Not, And, Or, Minus}
use Rattle.words.specs.declared.Word.TheVariants.{Test, Verb, If, Else, While, Skip, Stop, By, P}
use Rattle.tokens.specs.Streams.{Stream, end, bad, word, number, mark}
use Rattle.conditions.specs.declared.Operand.{Operand}
use Rattle.conditions.specs.declared.Operand.TheVariants as operand
use Rattle.conditions.specs.Outcomes.{Out}

-- an operand begins with a test, 0, 1, `!` or `(`
abbrev pub operand_of : Stream → Out Operand
operand_of (end p) = Err (Unexpected p)
operand_of (bad f) = Err f
operand_of (word p (Test t) s) = Ok (operand.Set (record { bits = set_of t }), s)
operand_of (word p (Verb v) s) = Err (Unexpected p)
operand_of (word p If s) = Err (Unexpected p)
operand_of (word p Else s) = Err (Unexpected p)
operand_of (word p While s) = Err (Unexpected p)
operand_of (word p Skip s) = Err (Unexpected p)
operand_of (word p Stop s) = Err (Unexpected p)
operand_of (word p By s) = Err (Unexpected p)
operand_of (word p P s) = Err (Unexpected p)
operand_of (number p v s) =
    cond (v == 0) (Ok (operand.Set (record { bits = 0 }), s)) (cond (v == 1) (Ok (operand.Set (record { bits = every }), s)) (Err (Unexpected p)))
operand_of (mark p OpenBrace s) = Err (Unexpected p)
operand_of (mark p CloseBrace s) = Err (Unexpected p)
operand_of (mark p OpenParen s) = Ok (operand.Group p, s)
operand_of (mark p CloseParen s) = Err (Unexpected p)
operand_of (mark p OpenBracket s) = Err (Unexpected p)
operand_of (mark p CloseBracket s) = Err (Unexpected p)
operand_of (mark p Semicolon s) = Err (Unexpected p)
operand_of (mark p Not s) = Ok (operand.Not p, s)
operand_of (mark p And s) = Err (Unexpected p)
operand_of (mark p Or s) = Err (Unexpected p)
operand_of (mark p Minus s) = Err (Unexpected p)
