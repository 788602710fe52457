use Rattle.atoms.proofs.Members.{member_and}
use Rattle.atoms.proofs.AtomSet.intersection.Goals as goal

pub returns-clause-members : goal.returns-clause-members
returns-clause-members c = member_and c.args.self.bits c.args.other.bits
