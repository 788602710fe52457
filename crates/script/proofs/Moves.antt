-- The moves of the script in a list, from its extent.
use Rattle.std.proofs.Common.{◌≡◌, ℕ, ◌<◌, ◌≤◌, Bool, true, false, cond, ◌&&◌, eqb, ltb, leb, ◌⊎◌, List, [], length, take, Some, None, Option, sym, refl, ap, ◌∙◌, subst, inl, inr, arith, eq-eqb, ne_eqb}
use Rattle.std.proofs.lemmas.Bool.{le-leb, lt-leb, lt-ltb, le-ltb, leb-true}
use Rattle.atoms.specs.Atoms.{atoms}
use Rattle.automata.specs.declared.Move.{Move}
use Rattle.automata.specs.declared.Move.TheVariants.{Reject}
use Rattle.automata.specs.Walks.{orders_in, first_move, after_move, machine_move}
use Rattle.labels.specs.declared.Order.{Order as Said}
use Rattle.script.specs.declared.Extent.{Extent}
use Rattle.script.specs.declared.node.Node.{Node}
use Rattle.script.specs.Trees.{Tree, steps, orders, expr_of}
use Rattle.script.specs.Lists.{most_steps, parsed, few_steps, script_in, used, Holds, Ends}
use Rattle.script.specs.Extents.{extent_on, extent_of}
use Rattle.script.specs.Machines.{script_move}
use Rattle.script.specs.MachineLaws.{orders_expr, orders_steps}
use Rattle.script.proofs.Decode.{parsed_holds, holds_parsed, holds_front, holds_within}

-- the script in a list is one that the list holds, of few steps
few_some : (o : Option Tree) (t : Tree) → few_steps o ≡ Some t → (o ≡ Some t) × (steps t ≤ most_steps)
few_some None t h = absurd (cc)
few_some (Some u) t h = by (leb (steps u) most_steps) refl h
  where
    by : (b : Bool) → leb (steps u) most_steps ≡ b → cond b (Some u) None ≡ Some t → (◌≡◌ {A = Option Tree} (Some u) (Some t)) × (steps t ≤ most_steps)
    by true e h = let s : u ≡ t = cc in (h, subst (λ (x : Tree). steps x ≤ most_steps) s (leb-true (steps u) most_steps e))
    by false e h = absurd (cc)

pub script_holds : (ns : List Node) (t : Tree) → script_in ns ≡ Some t → Holds ns t × (steps t ≤ most_steps)
unfolding script_in
script_holds ns t h = let f = few_some (parsed ns []) t h in (parsed_holds ns t f.0, f.1)

pub holds_script : (ns : List Node) (t : Tree) → Holds ns t → steps t ≤ most_steps → script_in ns ≡ Some t
unfolding script_in
holds_script ns t h few = ap few_steps (holds_parsed ns t h) ∙ ap (λ (b : Bool). cond b (Some t) None) (le-leb (steps t) most_steps few)

-- what an extent says of its list
pub record Stands (ns : List Node) (x : Extent) : Type 0 where
  pub tree : Tree
  pub is : script_in ns ≡ Some tree
  pub ends : Ends (take x.used ns) x.orders tree [] 0
  pub within : x.used ≤ length ns
  pub few : x.orders ≤ most_steps

pub stands : (ns : List Node) (x : Extent) → Some x ≡ extent_of ns → Stands ns x
stands ns x h = by (script_in ns) refl h
  where
    by : (o : Option Tree) → script_in ns ≡ o → Some x ≡ extent_on ns o → Stands ns x
    by None is h = absurd (cc)
    by (Some t) is h =
        let holds = script_holds ns t is in
        let few = holds.1 in
        let o = orders_steps t in
        let u : x.used ≡ used ns = cc in
        let n : x.orders ≡ orders t = cc in
        let w = holds_within ns t holds.0 in
        record {
          tree = t;
          is = is;
          ends = record { nodes = ap (λ (k : ℕ). take k ns) u ∙ holds_front ns t holds.0; count = omega arith };
          within = omega arith;
          few = omega arith;
        }

module _ (ns : List Node) (s a : ℕ) where
  module _ {x : Extent} (st : Stands ns x) where
    move_is : script_move (script_in ns) s a ≡ machine_move (expr_of st.tree) s a
    move_is = ap (λ (o : Option Tree). script_move o s a) st.is

    out_state : x.orders < s → (b : Bool) → (b && leb s (orders_in (expr_of st.tree))) ≡ false
    out_state lt true = let c = st.ends.count in let o = orders_expr st.tree in lt-leb s _ (omega arith)
    out_state lt false = refl

    pub outside_move : (64 ≤ a) ⊎ (x.orders < s) → Reject ≡ script_move (script_in ns) s a
    outside_move (inl h) = sym (move_is ∙ ap (λ (b : Bool). cond (b && leb s (orders_in (expr_of st.tree))) (cond (eqb s 0) (first_move (expr_of st.tree) 0 a) (after_move (expr_of st.tree) 0 s a)) Reject) (le-ltb a atoms h))
    outside_move (inr h) = sym (move_is ∙ ap (λ (b : Bool). cond b (cond (eqb s 0) (first_move (expr_of st.tree) 0 a) (after_move (expr_of st.tree) 0 s a)) Reject) (out_state h (ltb a atoms)))

    inside : a < atoms → s ≤ x.orders → script_move (script_in ns) s a ≡ cond (eqb s 0) (first_move (expr_of st.tree) 0 a) (after_move (expr_of st.tree) 0 s a)
    inside la ls =
        let c = st.ends.count in
        let o = orders_expr st.tree in
        let y : leb s (orders_in (expr_of st.tree)) ≡ true = le-leb s _ (omega arith) in
        move_is ∙ (λ i. cond (lt-ltb a atoms la i && y i) (cond (eqb s 0) (first_move (expr_of st.tree) 0 a) (after_move (expr_of st.tree) 0 s a)) Reject)

    pub start_move : a < atoms → s ≤ x.orders → s ≡ 0 → (m : Move Said) → m ≡ first_move (expr_of st.tree) 0 a → m ≡ script_move (script_in ns) s a
    start_move la ls z m e =
        e ∙ sym (inside la ls ∙ ap (λ (b : Bool). cond b (first_move (expr_of st.tree) 0 a) (after_move (expr_of st.tree) 0 s a)) (eq-eqb s 0 z))

    pub later_move : a < atoms → s ≤ x.orders → (s ≡ 0 → ⊥) → (m : Move Said) → m ≡ after_move (expr_of st.tree) 0 s a → m ≡ script_move (script_in ns) s a
    later_move la ls z m e =
        e ∙ sym (inside la ls ∙ ap (λ (b : Bool). cond b (first_move (expr_of st.tree) 0 a) (after_move (expr_of st.tree) 0 s a)) (ne_eqb s 0 z))
