use Rattle.std.proofs.Common.{◌≡◌, drop, vec_items, Some}
use Rattle.trials.specs.declared.escape.Step.TheVariants.{On}
use Rattle.trials.specs.Escapes.{read_on, unescaped}
use Rattle.trials.proofs.escape.unescape.Given as goal

abbrev pub invariant-loop-b : goal.invariant-loop-b
invariant-loop-b l = unescaped l.text ≡ read_on (vec_items l.bytes) (Some (On l.escape)) (drop l.b-index l.text)
