use Rattle.std.proofs.Common.{vec_items, subst, lit<}
use Rattle.std.proofs.lemmas.Iterator.Consumers.{YieldsList-at, YieldsList-end}
use Rattle.std.proofs.lemmas.Iterator.Splits.{YieldsList-from_str_split}
use Rattle.trials.specs.Fields.{AllWritten}
use Rattle.trials.proofs.Finding.{parsed, written_next}
use Rattle.trials.proofs.question.numbers_of.Goals as goal

pub loop-item-preserved : goal.loop-item-preserved
loop-item-preserved c =
    written_next (vec_items c.loop-item.numbers) _ c.loop-item.yielded c.in-Some.item c.in_ok-parse.field-0 c.loop-item.invariant (parsed c.in-Some.item.now _ _ c.in_ok-parse.ensures.value.0) c.in_ok-push.ensures.items

pub returns : goal.returns
returns c =
    let road = YieldsList-from_str_split 44 c.args.list.now (lit< tt) c.split-item-items.ensures.text c.split-item-items.ensures.has_more c.split-item-items.ensures.pattern in
    let over = YieldsList-end (YieldsList-at c.into_iter-item-iterator.ensures.into_iter_gives road) c.loop-item.yielded _ c.loop-item.yielded_by _ _ c.in-None.is c.next.ensures.steps in
    subst (AllWritten (vec_items c.loop-item.numbers)) over.0 c.loop-item.invariant
