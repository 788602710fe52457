use Rattle.std.proofs.Common.{◌≡◌, ℕ, slice_index, Some, Ok, Err, Result, sym, ◌∙◌}
use Rattle.std.specs.Result.{result_ok}
use Rattle.labels.specs.declared.Verb.{Verb}
use Rattle.labels.specs.declared.UnknownVerb.{UnknownVerb}
use Rattle.labels.specs.Verbs.{verb_of, VerbOf}
use Rattle.labels.specs.Labels.{cast_made}
use Rattle.labels.specs.Numbers.{signed_cast}
use Rattle.labels.proofs.MeasuredLabel.from_bytes.Goals as goal

-- a verb that is read from a byte is the byte's
read : (b : ℕ) (r : Result Verb UnknownVerb) (v : Verb) → VerbOf b r → result_ok r ≡ Some v → Some v ≡ verb_of b
read b (Ok w) v e f = cc
read b (Err w) v e f = cc

pub returns : goal.returns
returns c =
    cast_made c.args.bytes c.in_ok-ok.field-0 _ _ (read (slice_index c.args.bytes 0) c.try_from.result _ c.try_from.ensures (sym c.ok.ensures.value ∙ c.in_ok-ok.was))
    (signed_cast _ c.cast_signed.result c.cast_signed.type_inv c.cast_signed.ensures)
    (signed_cast _ c.cast_signed-2.result c.cast_signed-2.type_inv c.cast_signed-2.ensures)
    _ _
