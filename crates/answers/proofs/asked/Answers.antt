use Rattle.std.proofs.Common.{◌≡◌, length, Err, ap, ◌∙◌, refl, rules}
use Rattle.std.proofs.lemmas.Result.{err_from_is_err_and}
use Rattle.reading.specs.Drafts.{node_records}
use Rattle.script.specs.Machines.{tree_of}
use Rattle.script.specs.MachineLaws.{outside_rejected}
use Rattle.answers.proofs.Listing.{text_is, written, machine_of_list, refused}
use Rattle.answers.proofs.asked.Goals as goal

pub returns-in_err-read : goal.returns-in_err-read
returns-in_err-read g c =
    let n : length c.deref_mut.result.now ≡ node_records = search rules in
    let p = err_from_is_err_and c.from_residual-in_err-read.result c.from_residual-in_err-read.ensures.1 in
    refused g.L.Label _ _ _ c.from_residual-in_err-read.result _ (p.1 ∙ ap Err p.2) (text_is c.args.kind c.args.text.now c.deref_mut.result.now _ n c.in_err-read.ensures.0)

pub returns : goal.returns
returns g c =
    let n : length c.deref_mut.result.now ≡ node_records = search rules in
    let t = c.in_ok-read.ensures.0 in (
      t,
      _,
      _,
      text_is c.args.kind c.args.text.now c.deref_mut.result.now _ n c.in_ok-read.ensures.1,
      machine_of_list g.L.Label t c.deref_mut.result.now _ _ _ n (c.deref.ensures.value ∙ written _ _ _ (c.read.auto.nodes ∙ c.deref_mut.ensures.len) ∙ c.in_ok-read.ensures.2) c.of.ensures,
      outside_rejected g.L.Label (tree_of c.of.result.script),
      (c.of.result, (_, c.in_ok-ask.ensures, refl), refl, refl),
    )
