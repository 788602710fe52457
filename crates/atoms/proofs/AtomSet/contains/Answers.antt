use Rattle.std.proofs.Common.{◌≤◌, sym, ◌∙◌, rules}
use Rattle.std.proofs.lemmas.Bool.{le-ltb}
use Rattle.atoms.proofs.Members.{member_beyond}
use Rattle.atoms.proofs.AtomSet.contains.Goals as goal

pub returns-else-atom-lt-ATOMS-clause-is : goal.returns-else-atom-lt-ATOMS-clause-is
returns-else-atom-lt-ATOMS-clause-is c =
    let above : 64 ≤ c.args.atom = search rules in
    le-ltb c.args.atom 64 above ∙ sym (member_beyond 64 c.args.self.bits c.args.atom (search rules) above)
