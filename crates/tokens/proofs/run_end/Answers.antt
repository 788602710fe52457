use Rattle.std.proofs.Common.{◌+◌, ◌-◌, rules, ap, ◌∙◌, drop, length, arith, length-drop}
use Rattle.std.proofs.lemmas.Iterator.{YieldsList-from_slice}
use Rattle.std.proofs.lemmas.Iterator.Search.{YieldsList-from_take_while}
use Rattle.std.proofs.lemmas.Iterator.Consumers.{count_from_yields_List}
use Rattle.std.proofs.lemmas.List.{take_all}
use Rattle.std.proofs.lemmas.List.Folds.{length-prefix_len}
use Rattle.tokens.proofs.run_end.Goals as goal

pub returns-clause-is : goal.returns-clause-is
returns-clause-is g c =
    let told = c.requires.1.1.1 in
    let text = c.args.text.now in
    let rest = drop c.args.from text in
    let whole = take_all (length text - c.args.from) rest (omega (arith, length-drop c.args.from text)) in
    ap (λ n. c.args.from + n)
    (count_from_yields_List c.take_while.result c.count.result c.count.ensures.ran (YieldsList-from_take_while _ g.test (YieldsList-from_slice rest (ap (λ i. i.rest.now) c.take_while.ensures.source ∙ c.iter.ensures.rest ∙ whole)) c.take_while.ensures.closure c.take_while.ensures.done (λ x b q k. search (rules, told)))
    ∙ length-prefix_len g.test rest)
