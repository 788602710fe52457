use Rattle.std.proofs.Common.{map}
use Rattle.trials.proofs.both.Goals as goal

pub returns : goal.returns
returns c =
    (c.in_ok-question.question, map (λ x. x.now) c.in_ok-question.rest.now, c.in_ok-question.ensures, c.in_ok-stored.ensures, c.in_ok-found.ensures)
