use Rattle.std.proofs.Common.{refl, ap, inl, inr, arith}
use Rattle.script.specs.declared.node.Node.{Node}
use Rattle.script.specs.Trees.{ordered, tested, joined, branched, guarded, looped}
use Rattle.script.specs.Lists.{grown}
use Rattle.script.proofs.Tallies.{make_leaf, make_one, make_two}
use Rattle.script.proofs.Tally.with.Goals as goal

pub returns-in-Order-clause-told : goal.returns-in-Order-clause-told
returns-in-Order-clause-told c st y = make_leaf _ st _ _ _ y (ordered _) (ap (λ (n : Node). grown n st) c.in-Order.is) _ refl refl

pub returns-in-Test-clause-told : goal.returns-in-Test-clause-told
returns-in-Test-clause-told c st y = make_leaf _ st _ _ _ y (tested _) (ap (λ (n : Node). grown n st) c.in-Test.is) _ (omega arith) refl

pub returns-in-Sequence-clause-told : goal.returns-in-Sequence-clause-told
returns-in-Sequence-clause-told c st y = make_two _ st _ _ _ y joined 0 (ap (λ (n : Node). grown n st) c.in-Sequence.is) (λ l r. (omega arith, refl)) c.if-self-ge2.true _ (omega arith)

pub returns-in-If-clause-told : goal.returns-in-If-clause-told
returns-in-If-clause-told c st y = make_two _ st _ _ _ y (branched _) 1 (ap (λ (n : Node). grown n st) c.in-If.is) (λ l r. (refl, refl)) c.if-self-ge2-2.true _ refl

pub returns-in-When-clause-told : goal.returns-in-When-clause-told
returns-in-When-clause-told c st y =
    elim c.in-When.is [
      | inl w ↦ make_one _ st _ _ _ y (guarded _) (ap (λ (n : Node). grown n st) w.1) (λ l. (refl, refl)) c.if-self-ge1.true
      | inr w ↦ make_one _ st _ _ _ y (looped _) (ap (λ (n : Node). grown n st) w.1) (λ l. (refl, refl)) c.if-self-ge1.true
    ]
