-- The machine of an expression, by two walks: the first move, and the move after the k-th order.
use Rattle.std.specs.Prelude.{ℕ, ◌+◌, cond, ◌&&◌, Some, None, Option, ◌==◌, nat_le, nat_lt}
use Rattle.atoms.specs.Atoms.{atoms}
use Rattle.automata.specs.declared.Move.{Move}
use Rattle.automata.specs.declared.Move.TheVariants.{Accept, Reject, Step}
use Rattle.automata.specs.Expressions.{Expr, order, test, seq, choice, while}

-- how many orders an expression has; they are numbered from 1 in the order of the text
abbrev pub orders_in : {L : Type 0} → Expr L → ℕ
orders_in (order l) = 1
orders_in (test c) = 0
orders_in (seq e f) = orders_in e + orders_in f
orders_in (choice c e f) = orders_in e + orders_in f
orders_in (while c e) = orders_in e

-- where the first accepts, the second moves
abbrev pub then_move : {L : Type 0} → Move L → Move L → Move L
then_move Accept n = n
then_move Reject n = Reject
then_move (Step l t) n = Step l t

-- a loop whose body passes an atom without an order rejects it
abbrev pub turn_move : {L : Type 0} → Move L → Move L
turn_move Accept = Reject
turn_move Reject = Reject
turn_move (Step l t) = Step l t

-- the first move at an atom of an expression before which n orders stand
abbrev pub first_move : {L : Type 0} → Expr L → ℕ → ℕ → Move L
first_move (order l) n a = Step l (n + 1)
first_move (test c) n a = cond (c a) Accept Reject
first_move (seq e f) n a = then_move (first_move e n a) (first_move f (n + orders_in e) a)
first_move (choice c e f) n a = cond (c a) (first_move e n a) (first_move f (n + orders_in e) a)
first_move (while c e) n a = cond (c a) (turn_move (first_move e n a)) Accept

-- the move at an atom just after the k-th order
abbrev pub after_move : {L : Type 0} → Expr L → ℕ → ℕ → ℕ → Move L
after_move (order l) n k a = Accept
after_move (test c) n k a = Reject
after_move (seq e f) n k a =
    cond (nat_le k (n + orders_in e)) (then_move (after_move e n k a) (first_move f (n + orders_in e) a)) (after_move f (n + orders_in e) k a)
after_move (choice c e f) n k a = cond (nat_le k (n + orders_in e)) (after_move e n k a) (after_move f (n + orders_in e) k a)
after_move (while c e) n k a = then_move (after_move e n k a) (cond (c a) (turn_move (first_move e n a)) Accept)

-- the move of a state: 0 is the start, state k stands just after the k-th order; else, and at what is no atom, reject
abbrev pub machine_move : {L : Type 0} → Expr L → ℕ → ℕ → Move L
machine_move e s a = cond (nat_lt a atoms && nat_le s (orders_in e)) (cond (s == 0) (first_move e 0 a) (after_move e 0 s a)) Reject

-- a move whose label is made anew; where none can be made it rejects
abbrev pub with_label : {M : Type 0} → ℕ → Option M → Move M
with_label t None = Reject
with_label t (Some m) = Step m t

-- the same move with a label of another kind
abbrev pub labelled : {L M : Type 0} → (L → Option M) → Move L → Move M
labelled f Accept = Accept
labelled f Reject = Reject
labelled f (Step l t) = with_label t (f l)
