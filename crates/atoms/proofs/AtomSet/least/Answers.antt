use Rattle.std.proofs.Common.{rules}
use Rattle.atoms.proofs.Members.{trailing_least}
use Rattle.atoms.proofs.AtomSet.least.Goals as goal

pub returns-else-self-eq0 : goal.returns-else-self-eq0
returns-else-self-eq0 c = trailing_least 64 c.args.self.bits (search rules) (search rules)
