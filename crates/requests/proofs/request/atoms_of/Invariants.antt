use Rattle.std.proofs.Common.{take, vec_items}
use Rattle.requests.specs.Requests.{Atoms}
use Rattle.requests.proofs.request.atoms_of.Given as goal

abbrev pub invariant-loop-word : goal.invariant-loop-word
invariant-loop-word l = Atoms (take l.word-index l.words) (vec_items l.atoms)
