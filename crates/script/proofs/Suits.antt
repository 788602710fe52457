-- The orders of a list and of the tree that it holds, and the machine of a list.
use Rattle.std.proofs.Common.{◌≡◌, Bool, true, ◌&&◌, List, [], ◌∷◌, ◌++◌, is_some, IfSome, Some, None, Option, sym, refl, ap, ◌∙◌}
use Rattle.std.proofs.Math.Bool.{and-true}
use Rattle.std.proofs.lemmas.List.Folds.{list_all-append}
use Rattle.automata.specs.declared.Label.{Ghosts as LabelGhosts}
use Rattle.labels.specs.declared.Order.{Order as Said}
use Rattle.script.specs.declared.lent.Script.{Script}
use Rattle.script.specs.declared.node.Node.{Node}
use Rattle.script.specs.declared.node.Node.TheVariants.{Blank, Order, Test, Sequence, If, When, While}
use Rattle.script.specs.Trees.{Tree, ordered, tested, joined, branched, guarded, looped, every_order}
use Rattle.script.specs.Lists.{code, all_blank, Holds, script_in}
use Rattle.script.specs.Machines.{passes, every_node, of_kind, Whole, size_on, tree_of, moves_in, MachineOf}
use Rattle.script.proofs.Moves.{script_holds, holds_script}

module _ (p : Said → Bool) where
  with_last : (ns : List Node) (n : Node) → passes p n ≡ true → every_node p (ns ++ (n ∷ [])) ≡ every_node p ns
  with_last ns n y = list_all-append (passes p) ns (n ∷ []) ∙ ap (λ (b : Bool). every_node p ns && (b && true)) y ∙ and-true (every_node p ns)

  -- a tree's nodes have the tree's orders
  every_code : (t : Tree) → every_node p (code t) ≡ every_order p t
  every_code (ordered o) = and-true (p o)
  every_code (tested s) = refl
  every_code (joined l r) = list_all-append (passes p) (code l) (code r ++ (Sequence ∷ [])) ∙ (λ i. every_code l i && (with_last (code r) Sequence refl ∙ every_code r) i)
  every_code (branched s l r) = list_all-append (passes p) (code l) (code r ++ (If (record { bits = s }) ∷ [])) ∙ (λ i. every_code l i && (with_last (code r) (If (record { bits = s })) refl ∙ every_code r) i)
  every_code (guarded s l) = with_last (code l) (When (record { bits = s })) refl ∙ every_code l
  every_code (looped s l) = with_last (code l) (While (record { bits = s })) refl ∙ every_code l

  every_blank : (ns : List Node) → all_blank ns ≡ true → every_node p ns ≡ true
  every_blank [] h = refl
  every_blank (Blank ∷ ns) h = every_blank ns h
  every_blank (Order o ∷ ns) h = absurd (cc)
  every_blank (Test s ∷ ns) h = absurd (cc)
  every_blank (Sequence ∷ ns) h = absurd (cc)
  every_blank (If s ∷ ns) h = absurd (cc)
  every_blank (When s ∷ ns) h = absurd (cc)
  every_blank (While s ∷ ns) h = absurd (cc)

  every_holds : (ns : List Node) (t : Tree) → Holds ns t → every_node p ns ≡ every_order p t
  every_holds ns t h =
      ap (every_node p) h.nodes
      ∙ list_all-append (passes p) (code t) h.rest
      ∙ (λ i. every_code t i && every_blank h.rest h.blanks i)
      ∙ and-true (every_order p t)

module _ {L : Type 0} (g : LabelGhosts L) (ns : List Node) (fits : Bool) (is : fits ≡ every_node (of_kind g) ns) where
  whole_is : (t : Tree) → Whole g ns t → (fits ≡ true) × (script_in ns ≡ Some t)
  whole_is t w = (is ∙ every_holds (of_kind g) ns t w.holds ∙ w.kind, holds_script ns t w.holds w.few)

  is_whole : (t : Tree) → fits ≡ true → script_in ns ≡ Some t → Whole g ns t
  is_whole t f e =
      let h = script_holds ns t e in
      record { holds = h.0; few = h.1; kind = sym (is ∙ every_holds (of_kind g) ns t h.0) ∙ f }

  no_size : (o : Option Tree) → script_in ns ≡ o → fits ≡ true → ((t : Tree) → Whole g ns t → ⊥) → size_on o ≡ 0
  no_size None e f lack = refl
  no_size (Some t) e f lack = absurd (lack t (is_whole t f e))

  -- the machine over the script of a list, where its orders fit
  pub machine_of : (o : Option Script) → is_some o ≡ fits → IfSome o (λ s. s.nodes.now ≡ ns) → MachineOf g ns (size_on (tree_of o)) (moves_in g (tree_of o))
  machine_of None f same = record { whole = λ t w. absurd (let h = (whole_is t w).0 in cc); void = λ lack. refl }
  machine_of (Some s) f same =
      let tree : script_in s.nodes.now ≡ script_in ns = ap script_in same in
      record {
        whole = λ t w.
            let e : script_in s.nodes.now ≡ Some t = tree ∙ (whole_is t w).1 in
            (ap size_on e, λ st a. ap (λ (o : Option Tree). moves_in g o st a) e);
        void = λ lack. ap size_on tree ∙ no_size (script_in ns) refl (sym f) lack;
      }
