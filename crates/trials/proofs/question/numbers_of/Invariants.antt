use Rattle.std.proofs.Common.{map, vec_items}
use Rattle.trials.specs.Fields.{AllWritten}
use Rattle.trials.proofs.question.numbers_of.Given as goal

abbrev pub invariant-loop-item : goal.invariant-loop-item
invariant-loop-item l = AllWritten (vec_items l.numbers) (map (λ x. x.now) l.yielded)
