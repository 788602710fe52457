use Rattle.std.proofs.Common.{◌≡◌, ℕ, [], ◌∷◌, sym, refl, ap, ◌∙◌}
use Rattle.atoms.specs.declared.AtomSet.{AtomSet}
use Rattle.script.specs.declared.node.Node.TheVariants.{Test}
use Rattle.script.specs.Trees.{ordered, tested}
use Rattle.tokens.specs.Streams.{left}
use Rattle.reading.specs.declared.Leaf.{Leaf}
use Rattle.reading.specs.Steps.{plain_of}
use Rattle.conditions.proofs.Conds.{going}
use Rattle.reading.proofs.plain.Goals as goal

same_set : (x : AtomSet) (n : ℕ) → x.bits ≡ n → Test (record { bits = n }) ∷ [] ≡ Test x ∷ []
same_set x n e = ap (λ (v : ℕ). Test (record { bits = v }) ∷ []) (sym e)

pub returns-in_ok-order_after-in-Verb : goal.returns-in_ok-order_after-in-Verb
returns-in_ok-order_after-in-Verb c = (
  ordered c.in_ok-order_after-in-Verb.field-0,
  ap (λ (l : Leaf). plain_of c.args.kind c.args.levels l (left c.args.reader.now)) c.in-Verb.is ∙ going _ _ _ _ c.in_ok-order_after-in-Verb.ensures,
  refl,
  refl,
)

pub returns-in_ok-expect-in-Test : goal.returns-in_ok-expect-in-Test
returns-in_ok-expect-in-Test c = (
  tested c.in_ok-set-in-Test.set.bits,
  ap (λ (l : Leaf). plain_of c.args.kind c.args.levels l (left c.args.reader.now)) c.in-Test.is ∙ going _ _ _ _ c.in_ok-set-in-Test.ensures ∙ going _ _ _ _ c.in_ok-expect-in-Test.ensures.told,
  refl,
  refl,
)

pub returns-in-Skip : goal.returns-in-Skip
returns-in-Skip c =
    (tested _, ap (λ (l : Leaf). plain_of c.args.kind c.args.levels l (left c.args.reader.now)) c.in-Skip.is, same_set c.all.result _ c.all.ensures.is, refl)

pub returns-in-Stop : goal.returns-in-Stop
returns-in-Stop c =
    (tested _, ap (λ (l : Leaf). plain_of c.args.kind c.args.levels l (left c.args.reader.now)) c.in-Stop.is, same_set c.empty.result _ c.empty.ensures.is, refl)
