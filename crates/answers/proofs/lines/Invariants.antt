use Rattle.std.proofs.Common.{◌≡◌, ◌++◌, drop, vec_items}
use Rattle.answers.specs.Lines.{lines_of}
use Rattle.answers.proofs.lines.Given as goal

abbrev pub invariant-loop-atom : goal.invariant-loop-atom
invariant-loop-atom g l =
    lines_of g.M.Label.Spelled.said (g.M.Machine.moves l.machine) l.state l.atoms
    ≡ vec_items l.lines ++ lines_of g.M.Label.Spelled.said (g.M.Machine.moves l.machine) l.at (drop l.atom-index l.atoms)
