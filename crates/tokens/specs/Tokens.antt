-- The token that stands at a place of a text.
use Rattle.std.specs.Prelude.{◌≡◌, ◌⊎◌, ℕ, ◌+◌, ◌-◌, ◌*◌, ◌<◌, ◌≤◌, Bool, cond, List, length, take, drop, Some, None, Ok, Err, fold, Option, Result, nat_le, slice_index}
use Rattle.std.specs.List.{prefix_len}
use Rattle.automata.specs.declared.Fault.{Fault}
use Rattle.automata.specs.declared.Fault.TheVariants.{StrayByte, LargeNumber, UnknownWord}
use Rattle.tokens.specs.declared.Mark.{Mark as Sign}
use Rattle.words.specs.declared.Word.{Word as Known}
use Rattle.tokens.specs.declared.Token.{Token}
use Rattle.tokens.specs.declared.Token.TheVariants.{Word, Number, Mark, End}
use Rattle.tokens.specs.Classes.{is_blank, is_letter, is_digit, mark_of, same_mark}
use Rattle.words.specs.Words.{word_of}

-- a token by its place, and what it is: a known word with its letters, a number's value, a mark, or the end of the text
pub data Lexeme : Type 0 where
  word : ℕ → List ℕ → Known → Lexeme
  number : ℕ → ℕ → Lexeme
  mark : ℕ → Sign → Lexeme
  finish : ℕ → Lexeme

-- what a token of the code holds
abbrev pub lexeme : Token → Lexeme
lexeme (Word p t w) = word p t.now w
lexeme (Number p v) = number p v
lexeme (Mark p m) = mark p m
lexeme (End p) = finish p

-- where a token begins; the end's place is where the text ends
abbrev pub token_place : Token → ℕ
token_place (Word p t w) = p
token_place (Number p v) = p
token_place (Mark p m) = p
token_place (End p) = p

-- the place of a token, if it is this mark
abbrev pub mark_place : Sign → Token → Option ℕ
mark_place m (Word p t w) = None
mark_place m (Number p v) = None
mark_place m (Mark p n) = cond (same_mark m n) (Some p) None
mark_place m (End p) = None

-- o is the place of the token if it is this word, and else nothing
abbrev pub IsWordPlace : Known → Token → Option ℕ → Type 0
IsWordPlace w (Word p t v) o = ((v ≡ w) × (o ≡ Some p)) ⊎ (¬ (v ≡ w) × (o ≡ None))
IsWordPlace w (Number p v) o = o ≡ None
IsWordPlace w (Mark p n) o = o ≡ None
IsWordPlace w (End p) o = o ≡ None

-- what was read at a place, and the position after it
abbrev pub seen_at : Result (Token × ℕ) Fault → Result (Lexeme × ℕ) Fault
seen_at (Ok t) = Ok (lexeme t.0, t.1)
seen_at (Err f) = Err f

-- every byte is a digit
abbrev pub Digits : List ℕ → Type 0
Digits ds = (k : ℕ) → k < length ds → (48 ≤ slice_index ds k) × (slice_index ds k ≤ 57)

-- the value of a run of digits
abbrev pub decimal : List ℕ → ℕ
decimal ds = fold (λ v d. v * 10 + (d - 48)) 0 ds

-- a number of at most three digits and at most 127
abbrev pub numbered : ℕ → List ℕ → Result ℕ Fault
numbered p ds = cond (nat_le (length ds) 3) (cond (nat_le (decimal ds) 127) (Ok (decimal ds)) (Err (LargeNumber p))) (Err (LargeNumber p))

-- the longest run of such bytes from a place on
abbrev pub run_at : List ℕ → ℕ → (ℕ → Bool) → List ℕ
run_at text p q = take (prefix_len q (drop p text)) (drop p text)

-- a number token with the position behind it
abbrev pub with_number : ℕ → ℕ → Result ℕ Fault → Result (Lexeme × ℕ) Fault
with_number p e (Ok v) = Ok (number p v, e)
with_number p e (Err f) = Err f

-- a word token with the position behind it
abbrev pub with_word : ℕ → ℕ → List ℕ → Option Known → Result (Lexeme × ℕ) Fault
with_word p e letters (Some w) = Ok (word p letters w, e)
with_word p e letters None = Err (UnknownWord p)

-- a mark token with the position behind it
abbrev pub with_mark : ℕ → Option Sign → Result (Lexeme × ℕ) Fault
with_mark p (Some m) = Ok (mark p m, p + 1)
with_mark p None = Err (StrayByte p)

-- the token that begins with the byte b at p, and the position after it, or its fault
abbrev pub token_in : List ℕ → ℕ → ℕ → Result (Lexeme × ℕ) Fault
token_in text p b =
    cond (is_letter b) (with_word p (p + prefix_len is_letter (drop p text)) (run_at text p is_letter) (word_of (run_at text p is_letter)))
    (cond (is_digit b) (with_number p (p + prefix_len is_digit (drop p text)) (numbered p (run_at text p is_digit))) (with_mark p (mark_of b)))

-- the token at p, where no blank stands
abbrev pub token_from : List ℕ → ℕ → Result (Lexeme × ℕ) Fault
token_from text p = cond (nat_le (length text) p) (Ok (finish p, p)) (token_in text p (slice_index text p))

-- the next token from a position on, blanks skipped, and the position after it, or its fault
unfoldable pub next_token : List ℕ → ℕ → Result (Lexeme × ℕ) Fault
next_token text at = token_from text (at + prefix_len is_blank (drop at text))
