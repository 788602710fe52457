use Rattle.std.proofs.Common.{◌≡◌, Some, inl, inr, sym, ◌∙◌, arith, []}
use Rattle.std.proofs.lemmas.Grind.{merely}
use Rattle.script.specs.declared.Extent.{Extent}
use Rattle.script.specs.declared.lent.Script.{Script}
use Rattle.script.proofs.Moves.{Stands, stands, outside_move, start_move, later_move}
use Rattle.script.proofs.lent.Script.step.Goals as goal
use Rattle.script.proofs.lent.Script.step.Goals.{then-atom-ge-ATOMS-via-then-atom-ge-ATOMS, then-atom-ge-ATOMS-via-else-atom-ge-ATOMS+then-state-from}

-- what a script's extent says of its nodes
found : (s : Script) (x : Extent) → s.extent ≡ Some x → Stands s.nodes.now x
found s x is = stands s.nodes.now x (sym is ∙ s.surveyed)

pub returns-then-atom-ge-ATOMS : goal.returns-then-atom-ge-ATOMS
returns-then-atom-ge-ATOMS c =
    let s = found c.args.self.now c.in-Some.extent c.in-Some.is in
    elim c.then-atom-ge-ATOMS.branch [
      | then-atom-ge-ATOMS-via-then-atom-ge-ATOMS w ↦ outside_move c.args.self.now.nodes.now c.args.state c.args.atom s (inl w.if-atom-ge-ATOMS.true)
      | then-atom-ge-ATOMS-via-else-atom-ge-ATOMS+then-state-from w ↦ outside_move c.args.self.now.nodes.now c.args.state c.args.atom s (inr (omega arith))
    ]

pub invariant_of-tree : goal.invariant_of-tree
invariant_of-tree c =
    let s = found c.args.self.now c.in-Some.extent c.in-Some.is in
    record { tree = merely (s.tree, [], 0, s.ends) }

pub invariant_of-tree-2 : goal.invariant_of-tree-2
invariant_of-tree-2 c =
    let s = found c.args.self.now c.in-Some.extent c.in-Some.is in
    record { tree = merely (s.tree, [], 0, s.ends) }

pub returns-then-state-eq0 : goal.returns-then-state-eq0
returns-then-state-eq0 c =
    let s = found c.args.self.now c.in-Some.extent c.in-Some.is in
    start_move c.args.self.now.nodes.now c.args.state c.args.atom s c.if-atom-ge-ATOMS.false (omega arith) c.if-state-eq0.true _ (c.first.ensures s.tree [] 0 s.ends)

pub overflow_cast-state : goal.overflow_cast-state
overflow_cast-state c =
    let s = found c.args.self.now c.in-Some.extent c.in-Some.is in
    let few = s.few in
    omega arith

pub returns : goal.returns
returns c =
    let s = found c.args.self.now c.in-Some.extent c.in-Some.is in
    later_move c.args.self.now.nodes.now c.args.state c.args.atom s c.if-atom-ge-ATOMS.false (omega arith) c.if-state-eq0.false _ (c.after.ensures s.tree [] 0 s.ends)
