use Rattle.std.proofs.Common.{◌≡◌, drop}
use Rattle.automata.specs.Runs.{ended}
use Rattle.automata.proofs.run.Given as goal

abbrev pub invariant-loop-i : goal.invariant-loop-i
invariant-loop-i g l = ended (g.M.Machine.moves l.machine) l.i l.at (drop l.i l.atoms) ≡ ended (g.M.Machine.moves l.machine) 0 l.state l.atoms
