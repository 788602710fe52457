-- How the count of the tokens ahead falls as tokens are taken.
use Rattle.std.proofs.Common.{◌≡◌, ℕ, zero, suc, ◌+◌, ◌-◌, ◌<◌, ◌≤◌, Bool, true, false, cond, List, length, Some, Ok, Err, Result, sym, refl, ap, arith}
use Rattle.automata.specs.declared.Fault.{Fault}
use Rattle.automata.specs.declared.Fault.TheVariants.{Unexpected}
use Rattle.tokens.specs.declared.Mark.{Mark as Sign}
use Rattle.words.specs.declared.Word.TheVariants.{Else, By, P}
use Rattle.tokens.specs.Classes.{same_mark}
use Rattle.tokens.specs.Tokens.{Lexeme, next_token}
use Rattle.tokens.specs.Streams.{Stream, word, number, mark, ahead, before, stream_on, stream_of, stream_at, begins, past, by_place, past_by, begins_else, past_else, expected, expected_p, expected_number}
use Rattle.tokens.proofs.Positions.{Steps, Within, next_within}

-- a mark that is taken is one token less
pub ahead_past : (m : Sign) (s : Stream) → begins m s ≡ true → ahead s ≡ 1 + ahead (past m s)
ahead_past m (mark p n s) h = ap (λ (b : Bool). 1 + ahead (cond b s (mark p n s))) (sym h)
ahead_past m _ h = cc

-- and one that is not taken changes nothing
pub past_same : (m : Sign) (s : Stream) → begins m s ≡ false → past m s ≡ s
past_same m (mark p n s) h = ap (λ (b : Bool). cond b s (mark p n s)) h
past_same m _ h = refl

pub ahead_past_by : (s : Stream) (p : ℕ) → by_place s ≡ Some p → ahead s ≡ 1 + ahead (past_by s)
ahead_past_by (word q By s) p h = refl
ahead_past_by _ p h = cc

pub ahead_past_else : (s : Stream) → begins_else s ≡ true → ahead s ≡ 1 + ahead (past_else s)
ahead_past_else (word q Else s) h = refl
ahead_past_else _ h = cc

-- one more than what is ahead after a success
ahead_after : Result (ℕ × Stream) Fault → ℕ
ahead_after (Ok t) = 1 + ahead t.1
ahead_after (Err f) = 0

-- what was expected and came is one token less
pub ahead_expected : (m : Sign) (s : Stream) (p : ℕ) (rest : Stream) → expected m s ≡ Ok (p, rest) → ahead s ≡ 1 + ahead rest
unfolding ahead_after
ahead_expected m (mark q n s) p rest h = same (same_mark m n) h
  where
    same : (b : Bool) → cond {A = Result (ℕ × Stream) Fault} b (Ok (q, s)) (Err (Unexpected q)) ≡ Ok (p, rest) → 1 + ahead s ≡ 1 + ahead rest
    same true e = ap ahead_after e
    same false e = cc
ahead_expected m _ p rest h = cc

pub ahead_expected_number : (s : Stream) (v : ℕ) (rest : Stream) → expected_number s ≡ Ok (v, rest) → ahead s ≡ 1 + ahead rest
unfolding ahead_after
ahead_expected_number (number q u s) v rest h = ap ahead_after h
ahead_expected_number _ v rest h = cc

pub ahead_expected_p : (s : Stream) (rest : Stream) → expected_p s ≡ Ok rest → ahead s ≡ 1 + ahead rest
ahead_expected_p (word q P s) rest h = let z : s ≡ rest = cc in ap (λ (x : Stream). 1 + ahead x) z
ahead_expected_p _ rest h = cc

-- there are no more tokens ahead than bytes left
ahead_steps : (l at : ℕ) (x : Result (Lexeme × ℕ) Fault) (f : ℕ → Stream) → Within l at x → ((k : ℕ) → at < k → k ≤ l → ahead (f k) ≤ l - k) → ahead (stream_on f x) ≤ l - at
ahead_steps l at (Ok t) f h s = lexemes t.0 t.1 h
  where
    lexemes : (x : Lexeme) (e : ℕ) → Steps l at x e → ahead (before x (f e)) ≤ l - at
    lexemes (Lexeme.word p letters w) e g = omega (arith, s e g.0 g.1)
    lexemes (Lexeme.number p v) e g = omega (arith, s e g.0 g.1)
    lexemes (Lexeme.mark p m) e g = omega (arith, s e g.0 g.1)
    lexemes (Lexeme.finish p) e g = omega arith
ahead_steps l at (Err b) f h s = omega arith

ahead_of : (n : ℕ) (text : List ℕ) (at : ℕ) → at ≤ length text → ahead (stream_of n text at) ≤ length text - at
ahead_of zero text at h = omega arith
ahead_of (suc n) text at h = ahead_steps (length text) at (next_token text at) (stream_of n text) (next_within text at h) (λ k q r. ahead_of n text k r)

pub ahead_at : (text : List ℕ) (at : ℕ) → at ≤ length text → ahead (stream_at text at) ≤ length text - at
unfolding stream_at
ahead_at text at h = ahead_of (suc (length text - at)) text at h
