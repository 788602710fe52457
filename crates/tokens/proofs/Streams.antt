-- The tokens from a position on are the next token and those that follow it.
use Rattle.std.proofs.Common.{◌≡◌, ℕ, zero, suc, ◌-◌, ◌<◌, ◌≤◌, List, length, Ok, Err, Result, sym, refl, ap, ◌∙◌, arith}
use Rattle.automata.specs.declared.Fault.{Fault}
use Rattle.tokens.specs.declared.Token.{Token}
use Rattle.tokens.specs.declared.Token.TheVariants.{Word, Number, Mark, End}
use Rattle.tokens.specs.Tokens.{Lexeme, lexeme, next_token}
use Rattle.tokens.specs.Streams.{Stream, bad, word, number, mark, before, stream_on, stream_of, stream_at, Took}
use Rattle.tokens.proofs.Positions.{Steps, Within, next_within}

-- what follows matters only at positions farther on
before_same : (f g : ℕ → Stream) (n at : ℕ) (x : Lexeme) (e : ℕ) → Steps n at x e → ((k : ℕ) → at < k → k ≤ n → f k ≡ g k) → before x (f e) ≡ before x (g e)
before_same f g n at (Lexeme.word p letters w) e h s = ap (word p w) (s e h.0 h.1)
before_same f g n at (Lexeme.number p v) e h s = ap (number p v) (s e h.0 h.1)
before_same f g n at (Lexeme.mark p m) e h s = ap (mark p m) (s e h.0 h.1)
before_same f g n at (Lexeme.finish p) e h s = refl

on_same : (f g : ℕ → Stream) (n at : ℕ) (x : Result (Lexeme × ℕ) Fault) → Within n at x → ((k : ℕ) → at < k → k ≤ n → f k ≡ g k) → stream_on f x ≡ stream_on g x
on_same f g n at (Ok t) h s = before_same f g n at t.0 t.1 h s
on_same f g n at (Err b) h s = refl

-- more steps than bytes left are enough
steps_enough : (text : List ℕ) (n m at : ℕ) → at ≤ length text → length text - at < n → length text - at < m → stream_of n text at ≡ stream_of m text at
steps_enough text zero m at h a b = absurd (omega arith)
steps_enough text (suc n) zero at h a b = absurd (omega arith)
steps_enough text (suc n) (suc m) at h a b =
    on_same (stream_of n text) (stream_of m text) (length text) at (next_token text at) (next_within text at h) (λ k q r. steps_enough text n m k r (omega arith) (omega arith))

-- the tokens from a position on: the next one, then those from the position after it
pub stream_next : (text : List ℕ) (at : ℕ) → at ≤ length text → stream_at text at ≡ stream_on (stream_at text) (next_token text at)
unfolding stream_at
stream_next text at h =
    on_same (stream_of (length text - at) text) (λ k. stream_of (suc (length text - k)) text k) (length text) at (next_token text at) (next_within text at h) (λ k q r. steps_enough text (length text - at) (suc (length text - k)) k r (omega arith) (omega arith))

-- what a token that was handed out leaves
pub took_from_token : (text : List ℕ) (at e : ℕ) (t : Token) → at ≤ length text → next_token text at ≡ Ok (lexeme t, e) → Took (stream_at text at) (Ok t) (stream_at text e)
took_from_token text at e (Word p l w) h q = stream_next text at h ∙ ap (stream_on (stream_at text)) q
took_from_token text at e (Number p v) h q = stream_next text at h ∙ ap (stream_on (stream_at text)) q
took_from_token text at e (Mark p m) h q = stream_next text at h ∙ ap (stream_on (stream_at text)) q
took_from_token text at e (End p) h q = stream_next text at h ∙ ap (stream_on (stream_at text)) q

pub bad_from_fault : (text : List ℕ) (at : ℕ) (f : Fault) → at ≤ length text → next_token text at ≡ Err f → stream_at text at ≡ bad f
bad_from_fault text at f h q = stream_next text at h ∙ ap (stream_on (stream_at text)) q

-- a number among the tokens is at most 127
number_on : (n at : ℕ) (f : ℕ → Stream) (x : Result (Lexeme × ℕ) Fault) (p v : ℕ) (rest : Stream) → Within n at x → stream_on f x ≡ number p v rest → v ≤ 127
number_on n at f (Ok t) p v rest h e = by t.0 t.1 h e
  where
    by : (x : Lexeme) (k : ℕ) → Steps n at x k → before x (f k) ≡ number p v rest → v ≤ 127
    by (Lexeme.number q u) k g i = let z : u ≡ v = cc in omega arith
    by _ k g i = cc
number_on n at f (Err b) p v rest h e = cc

pub number_ahead : (text : List ℕ) (at p v : ℕ) (rest : Stream) → at ≤ length text → stream_at text at ≡ number p v rest → v ≤ 127
number_ahead text at p v rest h e = number_on (length text) at (stream_at text) (next_token text at) p v rest (next_within text at h) (sym (stream_next text at h) ∙ e)
