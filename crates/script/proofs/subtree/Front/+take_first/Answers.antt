use Rattle.std.proofs.Common.{refl, ap, ◌∙◌, rules, cond}
use Rattle.atoms.specs.Sets.{member}
use Rattle.automata.specs.declared.Move.{Move}
use Rattle.automata.specs.declared.Move.TheVariants.{Accept}
use Rattle.labels.specs.declared.Order.{Order as Said}
use Rattle.automata.specs.Walks.{then_move, turn_move}
use Rattle.script.specs.Trees.{joined, branched, guarded, looped}
use Rattle.script.proofs.Parts.{not_blank, not_none, some_order, some_right, some_part, sequence, branching, guarding, looping}
use Rattle.script.proofs.Says.{says_order, says_test, says_two, says_one, some_left, shorter}
use Rattle.script.proofs.subtree.Front.+take_first.Goals as goal

pub unreachable-requires : goal.unreachable-requires
unreachable-requires t c = not_none c.args.self.now.nodes.now c.args.self.now.orders c.in_default.len_below c.requires

pub unreachable-requires-in-Blank : goal.unreachable-requires-in-Blank
unreachable-requires-in-Blank t c = not_blank c.args.self.now.nodes.now c.in-len1-up.len_at_least c.in-Blank.is c.args.self.now.orders c.requires

pub overflow_sub-self : goal.overflow_sub-self
overflow_sub-self t c = some_order c.args.self.now.nodes.now c.in-len1-up.len_at_least _ c.in-Order.is c.args.self.now.orders c.requires

pub take_first-right-requires : goal.take_first-right-requires
take_first-right-requires t c =
    (search rules, some_right c.args.self.now.nodes.now c.in-len1-up.len_at_least _ c.in-Sequence.is c.args.self.now.orders joined sequence c.requires)

pub take_first-left-requires : goal.take_first-left-requires
take_first-left-requires t c =
    let less = shorter c.args.self.now.nodes.now c.in-len1-up.len_at_least _ c.in-Sequence.is c.args.self.now.orders c.args.atom joined sequence _ _ _ c.take_first-right.ensures c.requires in
    (search rules, some_left c.args.self.now.nodes.now c.in-len1-up.len_at_least _ c.in-Sequence.is c.args.self.now.orders c.args.atom joined sequence _ _ _ c.take_first-right.ensures c.requires)

pub take_first-right-requires-in-If : goal.take_first-right-requires-in-If
take_first-right-requires-in-If t c =
    (search rules, some_right c.args.self.now.nodes.now c.in-len1-up.len_at_least _ c.in-If.is c.args.self.now.orders (branched _) (branching _) c.requires)

pub take_first-left-requires-in-If : goal.take_first-left-requires-in-If
take_first-left-requires-in-If t c =
    let less = shorter c.args.self.now.nodes.now c.in-len1-up.len_at_least _ c.in-If.is c.args.self.now.orders c.args.atom (branched _) (branching _) _ _ _ c.take_first-right-in-If.ensures c.requires in
    (search rules, some_left c.args.self.now.nodes.now c.in-len1-up.len_at_least _ c.in-If.is c.args.self.now.orders c.args.atom (branched _) (branching _) _ _ _ c.take_first-right-in-If.ensures c.requires)

pub take_first-body-requires : goal.take_first-body-requires
take_first-body-requires t c =
    (search rules, some_part c.args.self.now.nodes.now c.in-len1-up.len_at_least _ c.in-When.is c.args.self.now.orders (guarded _) (guarding _) c.requires)

pub take_first-body-requires-in-While : goal.take_first-body-requires-in-While
take_first-body-requires-in-While t c =
    (search rules, some_part c.args.self.now.nodes.now c.in-len1-up.len_at_least _ c.in-While.is c.args.self.now.orders (looped _) (looping _) c.requires)

pub returns-in-Order : goal.returns-in-Order
returns-in-Order t c = says_order c.args.self.now.nodes.now c.in-len1-up.len_at_least c.args.self.now.orders c.args.atom _ c.in-Order.is _ refl

pub returns-in-Test : goal.returns-in-Test
returns-in-Test t c = says_test c.args.self.now.nodes.now c.in-len1-up.len_at_least c.args.self.now.orders c.args.atom _ c.in-Test.is _ c.choose.ensures

pub returns-in-Sequence : goal.returns-in-Sequence
returns-in-Sequence t c =
    says_two c.args.self.now.nodes.now c.in-len1-up.len_at_least _ c.in-Sequence.is c.args.self.now.orders c.args.atom joined sequence _ _ _ c.take_first-right.ensures _ _ _ c.take_first-left.ensures
    c.then.result (λ l r n x y. c.then.ensures ∙ (λ k. then_move (x k) (y k)))

pub returns-in-If : goal.returns-in-If
returns-in-If t c =
    says_two c.args.self.now.nodes.now c.in-len1-up.len_at_least _ c.in-If.is c.args.self.now.orders c.args.atom (branched _) (branching _) _ _ _ c.take_first-right-in-If.ensures _ _ _ c.take_first-left-in-If.ensures
    c.choose-in-If.result (λ l r n x y. c.choose-in-If.ensures ∙ (λ k. cond (member c.in-If.set.bits c.args.atom) (x k) (y k)))

pub returns-in-When : goal.returns-in-When
returns-in-When t c =
    says_one c.args.self.now.nodes.now c.in-len1-up.len_at_least _ c.in-When.is c.args.self.now.orders c.args.atom (guarded _) (guarding _) _ _ _ c.take_first-body.ensures
    c.choose-in-When.result (λ l n x. c.choose-in-When.ensures ∙ (λ k. cond (member c.in-When.set.bits c.args.atom) (x k) (c.skip.ensures k)))

pub returns-in-While : goal.returns-in-While
returns-in-While t c =
    says_one c.args.self.now.nodes.now c.in-len1-up.len_at_least _ c.in-While.is c.args.self.now.orders c.args.atom (looped _) (looping _) _ _ _ c.take_first-body-in-While.ensures
    c.choose-in-While.result (λ l n x. c.choose-in-While.ensures ∙ ap (λ (m : Move Said). cond (member c.in-While.set.bits c.args.atom) m Accept) (c.turn.ensures ∙ ap turn_move x))
