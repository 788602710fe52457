use Rattle.std.proofs.Common.{ℕ, List, unwrap_or, ap, ◌∙◌, subst}
use Rattle.labels.specs.declared.Kind.TheVariants.{Measured}
use Rattle.requests.specs.Requests.{Commanded}
use Rattle.requests.proofs.Requests.{kinded_as, behind_first}
use Rattle.requests.proofs.request.parse_request.Goals as goal

pub returns : goal.returns
returns c =
    let P : List ℕ → Type 0 = λ bytes. Commanded bytes c.in_ok-file.rest.now c.in_ok-command.command in
    record {
      before = c.in_ok-before.before;
      after = c.in_ok-after.after;
      name = c.in_ok-name.name.now;
      file = c.in_ok-file.file.now;
      behind = c.in_ok-name.rest.now;
      rest = c.in_ok-file.rest.now;
      first = kinded_as c.args.words.now c.in_ok-before.before c.in_ok-before.rest.now _ c.in_ok-before.ensures (behind_first _ c.split_first.result _ c.in_ok-name.ensures.ok_part c.split_first.ensures.cases);
      second = kinded_as c.in_ok-name.rest.now c.in_ok-after.after c.in_ok-after.rest.now _ c.in_ok-after.ensures (behind_first _ c.split_first-2.result _ c.in_ok-file.ensures.ok_part c.split_first-2.ensures.cases);
      kind = c.unwrap_or-kind.ensures ∙ ap (λ o. unwrap_or o Measured) c.or.ensures;
      command = subst P c.as_str.ensures.value c.in_ok-command.ensures;
      reads = c.in_ok-clone.ensures.cases;
    }
