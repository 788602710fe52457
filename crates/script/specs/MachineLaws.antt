-- The laws of the machine of a script.
use Rattle.std.proofs.Common.{◌≡◌, ℕ, ◌<◌, ◌≤◌, Bool, true, false, cond, leb, ◌⊎◌, [], Some, None, Option, refl, ap, inl, inr, arith}
use Rattle.std.proofs.lemmas.Bool.{leb-true}
use Rattle.atoms.specs.Atoms.{atoms}
use Rattle.automata.specs.declared.Label.{Ghosts as LabelGhosts}
use Rattle.automata.specs.declared.Move.TheVariants.{Reject, Step}
use Rattle.automata.specs.Walks.{orders_in, machine_move, labelled}
use Rattle.automata.proofs.Targets.{within_step, move_within, labelled_within, move_outside}
use Rattle.script.specs.declared.lent.Script.{Script}
use Rattle.script.specs.Trees.{Tree, ordered, tested, joined, branched, guarded, looped, steps, orders, expr_of}
use Rattle.script.specs.Lists.{most_steps, parsed, few_steps, script_in}
use Rattle.script.specs.Machines.{label_of, size_on, script_move, tree_of, moves_in}

-- a tree's expression has as many orders as the tree
pub orders_expr : (t : Tree) → orders_in (expr_of t) ≡ orders t
orders_expr (ordered o) = refl
orders_expr (tested s) = refl
orders_expr (joined l r) = let a = orders_expr l in let b = orders_expr r in omega arith
orders_expr (branched s l r) = let a = orders_expr l in let b = orders_expr r in omega arith
orders_expr (guarded s l) = let a = orders_expr l in omega arith
orders_expr (looped s l) = orders_expr l

-- no tree has more orders than steps
pub orders_steps : (t : Tree) → orders t ≤ steps t
orders_steps (ordered o) = omega arith
orders_steps (tested s) = omega arith
orders_steps (joined l r) = let a = orders_steps l in let b = orders_steps r in omega arith
orders_steps (branched s l r) = let a = orders_steps l in let b = orders_steps r in omega arith
orders_steps (guarded s l) = let a = orders_steps l in omega arith
orders_steps (looped s l) = let a = orders_steps l in omega arith

few_states : (o : Option Tree) → size_on (few_steps o) ≤ 256
few_states None = omega arith
few_states (Some t) = by (leb (steps t) most_steps) refl
  where
    by : (b : Bool) → leb (steps t) most_steps ≡ b → size_on (cond b (Some t) None) ≤ 256
    by true h = let s = leb-true (steps t) most_steps h in let o = orders_steps t in omega arith
    by false h = omega arith

-- a script of at most 255 steps has at most 256 states
pub at_most_256 : (o : Option Script) → size_on (tree_of o) ≤ 256
unfolding script_in
at_most_256 None = omega arith
at_most_256 (Some s) = few_states (parsed s.nodes.now [])

module _ {L : Type 0} (g : LabelGhosts L) where
  pub target_below : (o : Option Tree) (s a : ℕ) (l : L) (t : ℕ) → moves_in g o s a ≡ Step l t → t < size_on o
  target_below None s a l t e = absurd (cc)
  target_below (Some x) s a l t e =
      let w = within_step (orders_in (expr_of x)) (labelled (label_of g) (machine_move (expr_of x) s a)) l t (labelled_within (label_of g) (orders_in (expr_of x)) (machine_move (expr_of x) s a) (move_within a (expr_of x) s)) e in
      let c = orders_expr x in
      omega arith

  script_outside : (o : Option Tree) (s a : ℕ) → (size_on o ≤ s) ⊎ (atoms ≤ a) → script_move o s a ≡ Reject
  script_outside None s a h = refl
  script_outside (Some x) s a (inl h) = let c = orders_expr x in move_outside (expr_of x) s a (inl (omega arith))
  script_outside (Some x) s a (inr h) = move_outside (expr_of x) s a (inr h)

  pub outside_rejected : (o : Option Tree) (s a : ℕ) → (size_on o ≤ s) ⊎ (atoms ≤ a) → moves_in g o s a ≡ Reject
  outside_rejected o s a h = ap (labelled (label_of g)) (script_outside o s a h)
