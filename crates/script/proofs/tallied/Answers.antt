use Rattle.std.proofs.Common.{sym, arith}
use Rattle.script.proofs.Tallies.{go_on, give_up}
use Rattle.script.proofs.tallied.Goals as goal

pub returns-in_err-tally : goal.returns-in_err-tally
returns-in_err-tally c =
    let r = c.loop-used.invariant in
    search (give_up c.args.nodes.now c.loop-used.used c.loop-used.tally r _ c.loop-used-test.true (sym c.if-is_blank.ensures) (c.in_err-tally.ensures.told r.trees r.tallied), c.from_residual.ensures)

pub loop-used-preserved : goal.loop-used-preserved
loop-used-preserved c =
    let r = c.loop-used.invariant in
    let near = c.in_ok-tally.ensures.near in
    let a = near.0 in
    let b = near.1 in
    let f = r.few_trees in
    let g = r.few_steps in
    go_on c.args.nodes.now c.loop-used.used c.loop-used.tally r _ c.loop-used-test.true (sym c.if-is_blank.ensures) c.in_ok-tally.tally
    (c.in_ok-tally.ensures.told r.trees r.tallied) (omega arith) (omega arith) (near.2 r.few_orders)
