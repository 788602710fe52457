use Rattle.std.proofs.Common.{sym, ◌∙◌, arith}
use Rattle.script.proofs.Tallies.{lacking, not_one, too_many, not_blank, whole, orders_few}
use Rattle.script.proofs.survey.Goals as goal
use Rattle.script.proofs.survey.Goals.{then-tally-ne1-via-then-tally-ne1, then-tally-ne1-via-else-tally-ne1+then-tally-gt-MOST_STEPS, then-tally-ne1-via-else-tally-ne1+else-tally-gt-MOST_STEPS+then-not-blank}

pub returns-in_err-tally : goal.returns-in_err-tally
returns-in_err-tally c = c.from_residual.ensures ∙ lacking c.args.nodes.now c.in_err-tally.ensures

pub returns-then-tally-ne1 : goal.returns-then-tally-ne1
returns-then-tally-ne1 c =
    elim c.then-tally-ne1.branch [
      | then-tally-ne1-via-then-tally-ne1 w ↦ not_one c.args.nodes.now _ _ c.in_ok-tally.ensures w.if-tally-ne1.true
      | then-tally-ne1-via-else-tally-ne1+then-tally-gt-MOST_STEPS w ↦ too_many c.args.nodes.now _ _ c.in_ok-tally.ensures w.if-tally-ne1.false w.if-tally-gt-MOST_STEPS.true
      | then-tally-ne1-via-else-tally-ne1+else-tally-gt-MOST_STEPS+then-not-blank w ↦ not_blank c.args.nodes.now _ _ c.in_ok-tally.ensures (sym w.if-not-blank.ensures)
    ]

pub overflow_cast-result : goal.overflow_cast-result
overflow_cast-result c =
    let few = orders_few c.args.nodes.now _ _ c.in_ok-tally.ensures c.if-tally-ne1.false in
    omega arith

pub returns : goal.returns
returns c = whole c.args.nodes.now _ _ c.in_ok-tally.ensures c.if-tally-ne1.false c.if-tally-gt-MOST_STEPS.false (sym c.if-not-blank.ensures)
