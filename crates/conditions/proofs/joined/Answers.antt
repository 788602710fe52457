use Rattle.std.proofs.Common.{Err, sym, ap, ◌∙◌}
use Rattle.std.proofs.lemmas.Result.{err_from_is_err_and}
use Rattle.tokens.specs.Streams.{left}
use Rattle.conditions.specs.Outcomes.{chain}
use Rattle.conditions.specs.Conditions.{add_part}
use Rattle.conditions.proofs.Eats.{add_eats}
use Rattle.conditions.proofs.Conds.{turn, fall, done, with_one, without, going, told_err}
use Rattle.conditions.proofs.joined.Goals as goal

pub returns-in_err-part : goal.returns-in_err-part
returns-in_err-part g c p op eats reads joins =
    let r = err_from_is_err_and c.from_residual-in_err-part.result c.from_residual-in_err-part.ensures.1 in
    told_err _ _ _ c.in_err-part.field-0.0 (r.1 ∙ ap Err r.2)
    (going (p (left c.args.reader.now)) (chain c.args.mark (add_part p op)) c.in_ok-set.set.bits (left c.part.new.arg2) (reads _ _ _ c.in_ok-set.ensures)
    ∙ sym (c.loop-mark.invariant p op eats reads joins)
    ∙ fall c.args.mark (add_part p op) (add_eats p eats op) c.loop-mark.set.bits (left c.loop-mark.reader) (left c.accept.new.self) c.loop-mark-test.ensures.is c.loop-mark-test.ensures.rest c.in_err-part.field-0.0
    (without (p (left c.accept.new.self)) _ c.in_err-part.field-0.0 (reads _ _ _ c.in_err-part.ensures)))

pub loop-mark-preserved : goal.loop-mark-preserved
loop-mark-preserved g c p op eats reads joins =
    sym (turn c.args.mark (add_part p op) (add_eats p eats op) c.loop-mark.set.bits (left c.loop-mark.reader) (left c.accept.new.self) c.loop-mark-test.ensures.is c.loop-mark-test.ensures.rest c.call-set.result.bits (left c.part-in-loop-mark.new.arg2)
    (with_one p (op c.loop-mark.set.bits) (left c.accept.new.self) c.in_ok-part.field-0.bits (left c.part-in-loop-mark.new.arg2) c.call-set.result.bits (reads _ _ _ c.in_ok-part.ensures) (joins _ _ _ c.call-set.ensures)))
    ∙ c.loop-mark.invariant p op eats reads joins

pub returns : goal.returns
returns g c p op eats reads joins =
    going (p (left c.args.reader.now)) (chain c.args.mark (add_part p op)) c.in_ok-set.set.bits (left c.part.new.arg2) (reads _ _ _ c.in_ok-set.ensures)
    ∙ sym (c.loop-mark.invariant p op eats reads joins)
    ∙ done c.args.mark (add_part p op) (add_eats p eats op) c.loop-mark.set.bits (left c.loop-mark.reader) (left c.accept.new.self) c.loop-mark-test.ensures.is c.loop-mark-test.ensures.rest
