use Rattle.std.proofs.Common.{rules}
use Rattle.atoms.proofs.Members.{ones_counted}
use Rattle.atoms.proofs.AtomSet.size.Goals as goal

pub returns : goal.returns
returns c = ones_counted 64 c.args.self.bits (search rules)
