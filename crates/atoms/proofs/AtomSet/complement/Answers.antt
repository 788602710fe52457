use Rattle.std.proofs.Common.{rules}
use Rattle.atoms.proofs.Members.{member_not}
use Rattle.atoms.proofs.AtomSet.complement.Goals as goal

pub returns-clause-members : goal.returns-clause-members
returns-clause-members c k = member_not 64 c.args.self.bits k (search rules)
