use Rattle.std.proofs.Common.{◌≡◌, ℕ}
use Rattle.tokens.specs.Streams.{Stream, left, ahead}
use Rattle.conditions.specs.Outcomes.{Out, chain, Eats}
use Rattle.conditions.specs.Conditions.{Reads, Joins, add_part}
use Rattle.conditions.proofs.joined.Given as goal

abbrev pub invariant-loop-mark : goal.invariant-loop-mark
invariant-loop-mark g l =
    (p : Stream → Out ℕ) (op : ℕ → ℕ → ℕ) → Eats p → Reads (goal.P-post g l.part) p → Joins (goal.J-post g l.join) op
    → chain l.mark (add_part p op) l.set.bits (left l.reader) ≡ chain l.mark (add_part p op) l.initial.set.bits (left l.initial.reader)

abbrev pub decreases-loop-mark : goal.decreases-loop-mark
decreases-loop-mark g l = ahead (left l.reader)
