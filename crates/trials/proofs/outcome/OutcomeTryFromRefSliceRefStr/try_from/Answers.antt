use Rattle.std.proofs.Common.{refl, rules}
use Rattle.trials.proofs.Finding.{parsed}
use Rattle.trials.proofs.Rows.{field, named_3, named_4}
use Rattle.trials.proofs.outcome.OutcomeTryFromRefSliceRefStr.try_from.Goals as goal

pub returns-in_ok-parse-in-ok : goal.returns-in_ok-parse-in-ok
returns-in_ok-parse-in-ok c =
    (field c.args.fields.now 1, field c.args.fields.now 2, named_3 c.args.fields.now _ (search rules) c.in-ok.is-ok, parsed (field c.args.fields.now 1) _ _ c.in_ok-parse-in-ok.ensures.value.0)

pub returns-in_ok-parse-in-refused-3 : goal.returns-in_ok-parse-in-refused-3
returns-in_ok-parse-in-refused-3 c =
    let fs = c.args.fields.now in (
      field fs 1,
      field fs 2,
      field fs 3,
      _,
      _,
      named_4 fs _ (search rules) c.in-refused.is-refused,
      parsed (field fs 1) _ _ c.in_ok-parse-in-refused.ensures.value.0,
      refl,
      parsed (field fs 2) _ _ c.in_ok-parse-in-refused-2.ensures.value.0,
      refl,
      parsed (field fs 3) _ _ c.in_ok-parse-in-refused-3.ensures.value.0,
    )
