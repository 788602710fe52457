use Rattle.atoms.proofs.Members.{member_or}
use Rattle.atoms.proofs.AtomSet.union.Goals as goal

pub returns-clause-members : goal.returns-clause-members
returns-clause-members c = member_or c.args.self.bits c.args.other.bits
