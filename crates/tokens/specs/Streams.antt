-- The tokens of a text in their order, to its end or to the first that is faulty.
use Rattle.std.specs.Prelude.{◌≡◌, ◌⊎◌, ℕ, zero, suc, ◌+◌, ◌-◌, Bool, true, false, cond, List, length, Some, None, Ok, Err, Option, Result}
use Rattle.automata.specs.declared.Fault.{Fault}
use Rattle.automata.specs.declared.Fault.TheVariants.{Unexpected}
use Rattle.tokens.specs.declared.Mark.{Mark as Sign}
use Rattle.words.specs.declared.Word.{Word as Known}
use Rattle.words.specs.declared.Word.TheVariants.{Test, Verb, If, Else, While, Skip, Stop, By, P}
use Rattle.tokens.specs.declared.Token.{Token}
use Rattle.tokens.specs.declared.Token.TheVariants.{Word, Number, Mark, End}
use Rattle.tokens.specs.declared.lent.Reader.{Reader}
use Rattle.tokens.specs.Classes.{same_mark}
use Rattle.tokens.specs.Tokens.{Lexeme, token_place, next_token}

-- tokens with their places, to the end of the text or to a token's fault
pub data Stream : Type 0 where
  end : ℕ → Stream
  bad : Fault → Stream
  word : ℕ → Known → Stream → Stream
  number : ℕ → ℕ → Stream → Stream
  mark : ℕ → Sign → Stream → Stream

-- how many tokens come before the end or the fault
abbrev pub ahead : Stream → ℕ
ahead (end p) = 0
ahead (bad f) = 0
ahead (word p w s) = 1 + ahead s
ahead (number p v s) = 1 + ahead s
ahead (mark p m s) = 1 + ahead s

-- a token before those that follow it
abbrev pub before : Lexeme → Stream → Stream
before (Lexeme.word p letters w) s = word p w s
before (Lexeme.number p v) s = number p v s
before (Lexeme.mark p m) s = mark p m s
before (Lexeme.finish p) s = end p

-- the token that comes next and those behind it, or its fault
abbrev pub stream_on : (ℕ → Stream) → Result (Lexeme × ℕ) Fault → Stream
stream_on rest (Ok t) = before t.0 (rest t.1)
stream_on rest (Err f) = bad f

-- at most n tokens from a position on
abbrev pub stream_of : ℕ → List ℕ → ℕ → Stream
stream_of zero text at = end at
stream_of (suc n) text at = stream_on (stream_of n text) (next_token text at)

-- the tokens of a text from a position on; there are no more than bytes left
unfoldable pub stream_at : List ℕ → ℕ → Stream
stream_at text at = stream_of (suc (length text - at)) text at

-- the tokens that a reader has still to hand out
abbrev pub left : Reader → Stream
left r = stream_at r.text.now r.at

-- what is left after a token was handed out, and which it was
abbrev pub Took : Stream → Result Token Fault → Stream → Type 0
Took s (Ok (Word p t w)) rest = s ≡ word p w rest
Took s (Ok (Number p v)) rest = s ≡ number p v rest
Took s (Ok (Mark p m)) rest = s ≡ mark p m rest
Took s (Ok (End p)) rest = s ≡ end p
Took s (Err f) rest = s ≡ bad f

-- what a test, whose answers `gives` relates to the token, makes of the next token: an answer takes it; without one, or at a fault, all is left
abbrev pub Accepts : {T : Type 0} → (Token → Option T → Type 0) → Stream → Option T → Stream → Type 0
Accepts gives s (Some v) rest = (t : Token) × Took s (Ok t) rest × gives t (Some v)
Accepts gives s None rest = (rest ≡ s) × (((t : Token) × (q : Stream) × Took s (Ok t) q × gives t None) ⊎ ((f : Fault) × (s ≡ bad f)))

-- the same where nothing else is allowed: no answer is the fault that the token was not expected
abbrev pub Expects : {T : Type 0} → (Token → Option T → Type 0) → Stream → Result T Fault → Stream → Type 0
Expects gives s (Ok v) rest = (t : Token) × Took s (Ok t) rest × gives t (Some v)
Expects gives s (Err f) rest = (s ≡ bad f) ⊎ ((t : Token) × (q : Stream) × Took s (Ok t) q × gives t None × (f ≡ Unexpected (token_place t)))

-- whether the mark comes next
abbrev pub begins : Sign → Stream → Bool
begins m (end p) = false
begins m (bad f) = false
begins m (word p w s) = false
begins m (number p v s) = false
begins m (mark p n s) = same_mark m n

-- what follows the mark, if it comes next
abbrev pub past : Sign → Stream → Stream
past m (end p) = end p
past m (bad f) = bad f
past m (word p w s) = word p w s
past m (number p v s) = number p v s
past m (mark p n s) = cond (same_mark m n) s (mark p n s)

-- the place of `by`, if it comes next
abbrev pub by_place : Stream → Option ℕ
by_place (end p) = None
by_place (bad f) = None
by_place (word p (Test t) s) = None
by_place (word p (Verb v) s) = None
by_place (word p If s) = None
by_place (word p Else s) = None
by_place (word p While s) = None
by_place (word p Skip s) = None
by_place (word p Stop s) = None
by_place (word p By s) = Some p
by_place (word p P s) = None
by_place (number p v s) = None
by_place (mark p n s) = None

-- what follows `by`, if it comes next
abbrev pub past_by : Stream → Stream
past_by (end p) = end p
past_by (bad f) = bad f
past_by (word p (Test t) s) = word p (Test t) s
past_by (word p (Verb v) s) = word p (Verb v) s
past_by (word p If s) = word p If s
past_by (word p Else s) = word p Else s
past_by (word p While s) = word p While s
past_by (word p Skip s) = word p Skip s
past_by (word p Stop s) = word p Stop s
past_by (word p By s) = s
past_by (word p P s) = word p P s
past_by (number p v s) = number p v s
past_by (mark p n s) = mark p n s

-- whether `else` comes next
abbrev pub begins_else : Stream → Bool
begins_else (end p) = false
begins_else (bad f) = false
begins_else (word p (Test t) s) = false
begins_else (word p (Verb v) s) = false
begins_else (word p If s) = false
begins_else (word p Else s) = true
begins_else (word p While s) = false
begins_else (word p Skip s) = false
begins_else (word p Stop s) = false
begins_else (word p By s) = false
begins_else (word p P s) = false
begins_else (number p v s) = false
begins_else (mark p n s) = false

-- what follows `else`, if it comes next
abbrev pub past_else : Stream → Stream
past_else (end p) = end p
past_else (bad f) = bad f
past_else (word p (Test t) s) = word p (Test t) s
past_else (word p (Verb v) s) = word p (Verb v) s
past_else (word p If s) = word p If s
past_else (word p Else s) = s
past_else (word p While s) = word p While s
past_else (word p Skip s) = word p Skip s
past_else (word p Stop s) = word p Stop s
past_else (word p By s) = word p By s
past_else (word p P s) = word p P s
past_else (number p v s) = number p v s
past_else (mark p n s) = mark p n s

-- the mark where the grammar allows nothing else: its place and what follows, or the fault
abbrev pub expected : Sign → Stream → Result (ℕ × Stream) Fault
expected m (end p) = Err (Unexpected p)
expected m (bad f) = Err f
expected m (word p w s) = Err (Unexpected p)
expected m (number p v s) = Err (Unexpected p)
expected m (mark p n s) = cond (same_mark m n) (Ok (p, s)) (Err (Unexpected p))

-- the word `p` where the grammar allows nothing else
abbrev pub expected_p : Stream → Result Stream Fault
expected_p (end p) = Err (Unexpected p)
expected_p (bad f) = Err f
expected_p (word p (Test t) s) = Err (Unexpected p)
expected_p (word p (Verb v) s) = Err (Unexpected p)
expected_p (word p If s) = Err (Unexpected p)
expected_p (word p Else s) = Err (Unexpected p)
expected_p (word p While s) = Err (Unexpected p)
expected_p (word p Skip s) = Err (Unexpected p)
expected_p (word p Stop s) = Err (Unexpected p)
expected_p (word p By s) = Err (Unexpected p)
expected_p (word p P s) = Ok s
expected_p (number p v s) = Err (Unexpected p)
expected_p (mark p n s) = Err (Unexpected p)

-- a number where the grammar allows nothing else
abbrev pub expected_number : Stream → Result (ℕ × Stream) Fault
expected_number (end p) = Err (Unexpected p)
expected_number (bad f) = Err f
expected_number (word p w s) = Err (Unexpected p)
expected_number (number p v s) = Ok (v, s)
expected_number (mark p n s) = Err (Unexpected p)

-- the end of the text where the grammar allows nothing else
abbrev pub expected_end : Stream → Option Fault
expected_end (end p) = None
expected_end (bad f) = Some f
expected_end (word p w s) = Some (Unexpected p)
expected_end (number p v s) = Some (Unexpected p)
expected_end (mark p n s) = Some (Unexpected p)
