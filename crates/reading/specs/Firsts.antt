-- What the first token of a step decides.
use Rattle.std.specs.Prelude.{ℕ, Ok, Err}
use Rattle.automata.specs.declared.Fault.TheVariants.{Unexpected}
use Rattle.tokens.specs.declared.Mark.TheVariants.{OpenBrace, CloseBrace, OpenParen, CloseParen, OpenBracket, CloseBracket, Semicolon, Not, And, Or, Minus}
use Rattle.words.specs.declared.Word.TheVariants.{Test, Verb, If, Else, While, Skip, Stop, By, P}
use Rattle.tokens.specs.Streams.{Stream, end, bad, word, number, mark}
use Rattle.reading.specs.declared.First.{First}
use Rattle.reading.specs.declared.First.TheVariants as first
use Rattle.reading.specs.declared.Leaf.TheVariants as leaf
use Rattle.conditions.specs.Outcomes.{Out}

-- a step begins with a verb, `[`, `skip`, `stop`, `if` or `while`, at its place
abbrev pub first_of : Stream → Out (ℕ × First)
first_of (end p) = Err (Unexpected p)
first_of (bad f) = Err f
first_of (word p (Test t) s) = Err (Unexpected p)
first_of (word p (Verb v) s) = Ok ((p, first.Plain (leaf.Verb v)), s)
first_of (word p If s) = Ok ((p, first.If), s)
first_of (word p Else s) = Err (Unexpected p)
first_of (word p While s) = Ok ((p, first.While), s)
first_of (word p Skip s) = Ok ((p, first.Plain leaf.Skip), s)
first_of (word p Stop s) = Ok ((p, first.Plain leaf.Stop), s)
first_of (word p By s) = Err (Unexpected p)
first_of (word p P s) = Err (Unexpected p)
first_of (number p v s) = Err (Unexpected p)
first_of (mark p OpenBrace s) = Err (Unexpected p)
first_of (mark p CloseBrace s) = Err (Unexpected p)
first_of (mark p OpenParen s) = Err (Unexpected p)
first_of (mark p CloseParen s) = Err (Unexpected p)
first_of (mark p OpenBracket s) = Ok ((p, first.Plain leaf.Test), s)
first_of (mark p CloseBracket s) = Err (Unexpected p)
first_of (mark p Semicolon s) = Err (Unexpected p)
first_of (mark p Not s) = Err (Unexpected p)
first_of (mark p And s) = Err (Unexpected p)
first_of (mark p Or s) = Err (Unexpected p)
first_of (mark p Minus s) = Err (Unexpected p)
