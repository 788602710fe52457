use Rattle.std.proofs.Common.{◌+◌, Ok, sym, refl, ap, ◌∙◌, arith}
use Rattle.std.proofs.lemmas.Result.{err_from_is_err_and}
use Rattle.script.specs.declared.node.Node.TheVariants.{If, When, While}
use Rattle.script.specs.Trees.{branched, guarded, looped}
use Rattle.tokens.specs.declared.Mark.TheVariants.{Semicolon}
use Rattle.tokens.specs.Streams.{left, ahead}
use Rattle.tokens.specs.declared.lent.Reader.{Reader}
use Rattle.labels.specs.declared.Kind.{Kind}
use Rattle.reading.specs.declared.First.{First}
use Rattle.conditions.specs.Conditions.{cond_at}
use Rattle.reading.specs.Steps.{block_at, step_on, while_of}
use Rattle.reading.specs.Stores.{draft}
use Rattle.conditions.proofs.Conds.{left_less, going}
use Rattle.reading.proofs.Stores.{stored_counted, stored_one, stored_two}
use Rattle.reading.proofs.StepEats.{step_eats}
use Rattle.reading.proofs.Blocks.{block_deep, block_close_fails, step_in, if_alone, if_else, grown_err, grown_all}
use Rattle.reading.proofs.parser.Parser.+block_branch_script_step.Goals as goal

pub block-returns-in_err-below : goal.block-returns-in_err-below
block-returns-in_err-below t c =
    let p = err_from_is_err_and c.from_residual-in_err-below.result c.from_residual-in_err-below.ensures.1 in
    let s = c.args.self.now in
    rw (p.1, p.2) (block_deep s.kind c.args.levels s.steps (left s.reader) _ _ _ c.in_ok-place.ensures.told c.in_err-below.ensures)

pub block-returns-in_err-expect : goal.block-returns-in_err-expect
block-returns-in_err-expect t c =
    let p = err_from_is_err_and c.from_residual-in_err-expect.result c.from_residual-in_err-expect.ensures.1 in
    let s = c.args.self.now in
    let w = c.in_ok-script.ensures in
    rw (p.1, p.2) (block_close_fails s.kind c.args.levels s.steps (left s.reader) _ _ c.in_ok-below.below c.in_ok-place.ensures.told c.in_ok-below.ensures w.0 (left c.script.new.self.reader) _ w.1 c.in_err-expect.ensures.told)

pub branch-returns-then-not-accept_else : goal.branch-returns-then-not-accept_else
branch-returns-then-not-accept_else t c =
    let s = c.args.self.now in
    let w = c.in_ok-block.ensures in
    let e = c.if-not-accept_else.ensures in (
      guarded c.args.set.bits w.0,
      if_alone (block_at s.kind c.args.levels) s.steps c.args.set.bits (left s.reader) w.0 (left c.block.new.self.reader) (left c.accept_else.new.self) w.1 e.rest e.is
          ∙ ap (λ (r : Reader). Ok (guarded c.args.set.bits w.0, left r)) (sym c.push.ensures.reader),
      c.push.ensures.kind ∙ w.2,
      stored_one (guarded c.args.set.bits) (When c.args.set) w.0 refl refl (draft s) _ c.push.new.self w.3 c.push.ensures,
    )

pub branch-returns : goal.branch-returns
branch-returns t c =
    let s = c.args.self.now in
    let b = c.block.new.self in
    let w = c.in_ok-block.ensures in
    let v = c.in_ok-block-2.ensures in
    let e = c.if-not-accept_else.ensures in
    let n = w.3.count in (
      branched c.args.set.bits w.0 v.0,
      if_else (block_at s.kind c.args.levels) s.steps c.args.set.bits (left s.reader) w.0 (left b.reader) (left c.accept_else.new.self) w.1 e.rest e.is b.steps (omega arith) v.0 (left c.block-2.new.self.reader)
          (ap (λ (k : Kind). block_at k c.args.levels b.steps (left c.accept_else.new.self)) (sym w.2) ∙ v.1)
          ∙ ap (λ (r : Reader). Ok (branched c.args.set.bits w.0 v.0, left r)) (sym c.push-2.ensures.reader),
      c.push-2.ensures.kind ∙ v.2 ∙ w.2,
      stored_two 1 (branched c.args.set.bits) (If c.args.set) w.0 v.0 refl (omega arith) (draft s) (draft b) _ c.push-2.new.self w.3 v.3 c.push-2.ensures,
    )

pub script-returns-in_err-step-2 : goal.script-returns-in_err-step-2
script-returns-in_err-step-2 t c =
    let p = err_from_is_err_and c.from_residual-in_err-step-2.result c.from_residual-in_err-step-2.ensures.1 in
    let e = c.loop-self-test.ensures in
    rw (p.1, p.2) (grown_err c.args.levels c.args.self.now c.loop-self.self c.loop-self.invariant (left c.accept.new.self) e.rest e.is c.in_err-step-2.field-0.0 c.in_err-step-2.ensures)

pub script-loop-self-smaller : goal.script-loop-self-smaller
script-loop-self-smaller t c =
    let s = c.loop-self.self in
    let v = c.in_ok-step-2.ensures in
    let a = left_less Semicolon (left s.reader) (left c.accept.new.self) c.loop-self-test.ensures.is c.loop-self-test.ensures.rest in
    let b = step_eats s.kind c.args.levels s.steps (left c.accept.new.self) v.0 (left c.step-in-loop-self.new.self.reader) v.1 in
    let r = ap (λ (r : Reader). ahead (left r)) c.push.ensures.reader in
    omega arith

pub script-returns : goal.script-returns
script-returns t c =
    let g = c.loop-self.invariant in
    let e = c.loop-self-test.ensures in
    (g.tree, grown_all c.args.levels c.args.self.now c.loop-self.self g (left c.accept.new.self) e.rest e.is, g.kind, g.stored)

pub step-returns-in_ok-block-in-While : goal.step-returns-in_ok-block-in-While
step-returns-in_ok-block-in-While t c =
    let s = c.args.self.now in
    let k = c.in_ok-count.ensures.1 in
    let r = left c.first_token.new.reader in
    let x = c.in_ok-set-in-While.set in
    let b = c.block.new.self in
    let w = c.in_ok-block-in-While.ensures in (
      looped x.bits w.0,
      step_in s.kind c.args.levels s.steps (left s.reader) c.in_ok-place.place c.in_ok-place.first r c.in_ok-place.ensures c.in_ok-count.ensures.0
          ∙ ap (λ (f : First). step_on s.kind c.args.levels (block_at s.kind c.args.levels) (s.steps + 1) f r) c.in-While.is
          ∙ going (cond_at c.args.levels r) (while_of (block_at s.kind c.args.levels) (s.steps + 1)) x.bits (left c.cond-in-While.new.reader)
          (ap (λ (r : Reader). cond_at c.args.levels (left r)) (sym k.reader) ∙ c.in_ok-set-in-While.ensures)
          ∙ going (block_at s.kind c.args.levels (s.steps + 1) (left c.cond-in-While.new.reader)) _ w.0 (left b.reader)
          ((λ i. block_at (sym k.kind i) c.args.levels (sym k.count i) (left c.cond-in-While.new.reader)) ∙ w.1)
          ∙ ap (λ (r : Reader). Ok (looped x.bits w.0, left r)) (sym c.push-in-While.ensures.reader),
      c.push-in-While.ensures.kind ∙ w.2 ∙ k.kind,
      stored_counted _ c.count.new.self (draft c.push-in-While.new.self) (looped x.bits w.0) k
          (stored_one (looped x.bits) (While x) w.0 refl refl (draft c.count.new.self) _ c.push-in-While.new.self w.3 c.push-in-While.ensures),
    )
