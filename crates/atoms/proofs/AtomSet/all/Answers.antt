use Rattle.atoms.proofs.Members.{member_all}
use Rattle.atoms.proofs.AtomSet.all.Goals as goal

pub returns-clause-members : goal.returns-clause-members
returns-clause-members c = member_all 64
