-- What a part of a text comes to: a value and the tokens that follow it, or a fault.
use Rattle.std.specs.Prelude.{◌≡◌, ◌≤◌, ℕ, zero, suc, cond, Ok, Err, Result}
use Rattle.automata.specs.declared.Fault.{Fault}
use Rattle.tokens.specs.declared.Mark.{Mark}
use Rattle.tokens.specs.Streams.{Stream, ahead, begins, past}

-- a value and the tokens behind it, or the fault
abbrev pub Out : Type 0 → Type 0
Out A = Result (A × Stream) Fault

-- one part after the other; the first fault decides
abbrev pub bind : {A B : Type 0} → Out A → (A → Stream → Out B) → Out B
bind (Ok x) f = f x.0 x.1
bind (Err e) f = Err e

-- as long as the mark comes next, one more part, at most n
abbrev pub more : {A : Type 0} → Mark → (A → Stream → Out A) → ℕ → A → Stream → Out A
more m part zero x s = Ok (x, s)
more m part (suc n) x s = cond (begins m s) (bind (part x (past m s)) (more m part n)) (Ok (x, s))

-- as long as the mark comes next, one more part; there are no more than tokens
unfoldable pub chain : {A : Type 0} → Mark → (A → Stream → Out A) → A → Stream → Out A
chain m part x s = more m part (ahead s) x s

-- a part takes its tokens from the front
abbrev pub Eats : {A : Type 0} → (Stream → Out A) → Type 0
Eats {A} f = (s : Stream) (x : A) (q : Stream) → f s ≡ Ok (x, q) → ahead q ≤ ahead s
