-- Scripts as expressions of guarded Kleene algebra with tests, and their traces.
use Rattle.std.specs.Prelude.{◌≡◌, ℕ, ◌<◌, Bool, true}
use Rattle.atoms.specs.Atoms.{atoms}
use Rattle.automata.specs.Traces.{Trace, last, then}
use Rattle.automata.specs.Joins.{Traces, Sequence, Choice, Loop}

-- an order; a test by the set of its atoms; one after the other; a choice by a set; a loop by a set
pub data Expr (L : Type 0) : Type 0 where
  order : L → Expr L
  test : (ℕ → Bool) → Expr L
  seq : Expr L → Expr L → Expr L
  choice : (ℕ → Bool) → Expr L → Expr L → Expr L
  while : (ℕ → Bool) → Expr L → Expr L

-- every atom, the label, every atom
pub data Ordered {L : Type 0} (alike : L → L → Bool) (l : L) : Trace L → Type 0 where
  given : {a b : ℕ} {k : L} → a < atoms → b < atoms → alike l k ≡ true → Ordered alike l (then a k (last b))

-- an atom of the set, alone
pub data Tested {L : Type 0} (inside : ℕ → Bool) : Trace L → Type 0 where
  holds : {a : ℕ} → a < atoms → inside a ≡ true → Tested inside (last a)

-- the traces of an expression, where `alike` tells which labels are the same
abbrev pub Of : {L : Type 0} → (L → L → Bool) → Expr L → Traces L
Of alike (order l) = Ordered alike l
Of alike (test c) = Tested c
Of alike (seq e f) = Sequence (Of alike e) (Of alike f)
Of alike (choice c e f) = Choice c (Of alike e) (Of alike f)
Of alike (while c e) = Loop c (Of alike e)
