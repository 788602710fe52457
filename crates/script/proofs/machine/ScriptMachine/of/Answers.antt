use Rattle.std.proofs.Common.{rules}
use Rattle.script.proofs.Suits.{machine_of}
use Rattle.script.proofs.machine.ScriptMachine.of.Goals as goal

pub returns : goal.returns
returns g c = machine_of g.L.Label c.args.nodes.now c.all_suit.result c.all_suit.ensures c.then.result c.then.ensures.variant (search rules)
