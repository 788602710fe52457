use Rattle.std.proofs.Common.{◌∷◌, codes, sym, ap, ◌∙◌}
use Rattle.std.proofs.lemmas.Slice.Eq.{bytes_eq-Decides}
use Rattle.labels.specs.Kinds.{kind_named}
use Rattle.requests.proofs.Requests.{behind_first}
use Rattle.requests.proofs.request.kind_option.Goals as goal

pub returns-in_ok-kind-in-Some : goal.returns-in_ok-kind-in-Some
returns-in_ok-kind-in-Some c = (
  c.in-Some.option.now,
  c.in_ok-number-in-Some.number.now,
  c.in-Some.ensures.cases.0 ∙ ap (λ rest. c.in-Some.option.now ∷ rest) (behind_first c.in-Some.rest.now c.split_first-in-Some.result _ c.in_ok-number-in-Some.ensures.ok_part c.split_first-in-Some.ensures.cases),
  sym c.as_str.ensures.value ∙ (bytes_eq-Decides c.as_str.result.now (codes "--kind")).0 (sym c.eq.ensures ∙ c.if-eq.true),
  ap kind_named (sym c.as_str-in-Some.ensures.value) ∙ c.in_ok-kind-in-Some.ensures.value,
)
