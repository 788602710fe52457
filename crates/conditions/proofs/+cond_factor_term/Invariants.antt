use Rattle.std.proofs.Common.{◌+◌, ◌*◌}
use Rattle.conditions.proofs.+cond_factor_term.Given as goal

abbrev pub decreases-cond : goal.decreases-cond
decreases-cond l = 5 * l.levels + 4

abbrev pub decreases-cond-joined : goal.decreases-cond-joined
decreases-cond-joined l = 5 * l.levels + 3

abbrev pub decreases-term : goal.decreases-term
decreases-term l = 5 * l.levels + 2

abbrev pub decreases-term-joined : goal.decreases-term-joined
decreases-term-joined l = 5 * l.levels + 1

abbrev pub decreases-factor : goal.decreases-factor
decreases-factor l = 5 * l.levels
