use Rattle.std.proofs.Common.{◌+◌, drop, vec_items, Some, sym, ap, ◌∙◌}
use Rattle.trials.specs.declared.escape.Escape.TheVariants.{Nothing}
use Rattle.trials.specs.declared.escape.Step.TheVariants.{On, Byte}
use Rattle.trials.specs.Escapes.{read_on}
use Rattle.trials.proofs.Steps.{read_more, read_byte}
use Rattle.trials.proofs.escape.unescape.Goals as goal
use Rattle.trials.proofs.escape.unescape.Goals.{in-On, in-Byte+in_ok-push-in-Byte}

pub loop-b-preserved : goal.loop-b-preserved
loop-b-preserved c =
    let rest = drop (c.loop-b.b-index + 1) c.args.text.now in
    elim c.match-step-2.branch [
      | in-On w ↦
          c.loop-b.invariant
          ∙ read_more (vec_items c.loop-b.bytes) c.loop-b.escape c.args.text.now c.loop-b.b-index (Some (On w.in-On.next)) c.loop-b-test.true (sym (ap Some w.in-On.is) ∙ sym c.in-Some.is ∙ c.step.ensures)
          ∙ ap (λ v. read_on (vec_items v) (Some (On w.in-On.next)) rest) (sym w.bytes-is)
          ∙ ap (λ e. read_on (vec_items c.match-step-2.bytes) (Some (On e)) rest) (sym w.escape-is)
      | in-Byte+in_ok-push-in-Byte w ↦
          c.loop-b.invariant
          ∙ read_more (vec_items c.loop-b.bytes) c.loop-b.escape c.args.text.now c.loop-b.b-index (Some (Byte w.in-Byte.byte)) c.loop-b-test.true (sym (ap Some w.in-Byte.is) ∙ sym c.in-Some.is ∙ c.step.ensures)
          ∙ read_byte (vec_items c.loop-b.bytes) w.in-Byte.byte rest
          ∙ ap (λ bytes. read_on bytes (Some (On Nothing)) rest) (sym w.in_ok-push-in-Byte.ensures.items)
          ∙ ap (λ v. read_on (vec_items v) (Some (On Nothing)) rest) (sym w.bytes-is)
          ∙ ap (λ e. read_on (vec_items c.match-step-2.bytes) (Some (On e)) rest) (sym w.escape-is)
    ]
