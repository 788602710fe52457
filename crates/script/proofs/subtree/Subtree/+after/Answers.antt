use Rattle.std.proofs.Common.{◌≡◌, ◌⊎◌, ℕ, ◌+◌, ◌<◌, ◌≤◌, List, length, inl, inr, cond, sym, ap, ◌∙◌, arith, rules}
use Rattle.atoms.specs.Sets.{member}
use Rattle.atoms.specs.declared.AtomSet.{AtomSet}
use Rattle.automata.specs.declared.Move.{Move}
use Rattle.automata.specs.declared.Move.TheVariants.{Accept}
use Rattle.labels.specs.declared.Order.{Order as Said}
use Rattle.automata.specs.Walks.{first_move, then_move, turn_move, orders_in}
use Rattle.script.specs.declared.node.Node.{Node}
use Rattle.script.specs.declared.node.Node.TheVariants.{Sequence, If}
use Rattle.script.specs.Lists.{SomeTree}
use Rattle.script.specs.Trees.{Tree, joined, branched, guarded, looped, expr_of}
use Rattle.script.proofs.Parts.{last_node, below, not_blank, not_none, some_right, some_part, sequence, branching, guarding, looping}
use Rattle.script.proofs.Says.{Says, SaysAfter, after_order, after_test, after_right, after_left, after_one, some_left, shorter, upto, over, then_rest}
use Rattle.script.proofs.subtree.Subtree.+after.Goals as goal

-- the last node joins two trees
abbrev Joins : List Node → Type 0
Joins ns = (last_node ns ≡ Sequence) ⊎ ((s : AtomSet) × (last_node ns ≡ If s))

module _ (ns : List Node) (k a : ℕ) (some : 1 ≤ length ns) (joins : Joins ns) (tree : ∥ SomeTree ns k ∥₁) where
  right_tree : ∥ SomeTree (below ns) k ∥₁
  right_tree =
      elim joins [
        | inl e ↦ some_right ns some _ e k joined sequence tree
        | inr w ↦ some_right ns some _ w.1 k (branched _) (branching w.0) tree
      ]

  module _ (next : Move Said) (rest : List Node) (before : ℕ) (says : Says (below ns) k a next rest before) where
    left_tree : ∥ SomeTree rest before ∥₁
    left_tree =
        elim joins [
          | inl e ↦ some_left ns some _ e k a joined sequence _ _ _ says tree
          | inr w ↦ some_left ns some _ w.1 k a (branched _) (branching w.0) _ _ _ says tree
        ]

    left_shorter : length rest < length ns
    left_shorter =
        elim joins [
          | inl e ↦ shorter ns some _ e k a joined sequence _ _ _ says tree
          | inr w ↦ shorter ns some _ w.1 k a (branched _) (branching w.0) _ _ _ says tree
        ]

    in_right : (j : ℕ) → before < j → (mv : Move Said) → SaysAfter (below ns) k a j mv → SaysAfter ns k a j mv
    in_right j lt mv on =
        elim joins [
          | inl e ↦ after_right ns some _ e k a joined sequence _ _ _ says j lt mv on (λ l r n less. sym (over _ _ _ _ less))
          | inr w ↦ after_right ns some _ w.1 k a (branched _) (branching w.0) _ _ _ says j lt mv on (λ l r n less. sym (over _ _ _ _ less))
        ]

-- the move of a loop that comes round
abbrev again : ℕ → ℕ → Tree → ℕ → Move Said
again s a l n = cond (member s a) (turn_move (first_move (expr_of l) n a)) Accept

pub unreachable-requires : goal.unreachable-requires
unreachable-requires t c = not_none c.args.self.front.nodes.now c.args.self.front.orders c.in_default.len_below c.args.self.tree

pub unreachable-requires-in-Blank : goal.unreachable-requires-in-Blank
unreachable-requires-in-Blank t c = not_blank c.args.self.front.nodes.now c.in-len1-up.len_at_least c.in-Blank.is c.args.self.front.orders c.args.self.tree

pub take_first-next-requires : goal.take_first-next-requires
take_first-next-requires t c = right_tree c.args.self.front.nodes.now c.args.self.front.orders c.args.atom c.in-len1-up.len_at_least c.in-Sequence.is c.args.self.tree

pub invariant_of-after : goal.invariant_of-after
invariant_of-after t c = record { tree = right_tree c.args.self.front.nodes.now c.args.self.front.orders c.args.atom c.in-len1-up.len_at_least c.in-Sequence.is c.args.self.tree }

pub invariant_of-after-in-Sequence : goal.invariant_of-after-in-Sequence
invariant_of-after-in-Sequence t c = record { tree = left_tree c.args.self.front.nodes.now c.args.self.front.orders c.args.atom c.in-len1-up.len_at_least c.in-Sequence.is c.args.self.tree _ _ _ c.take_first-next.ensures }

pub after-left-requires : goal.after-left-requires
after-left-requires t c = let less = left_shorter c.args.self.front.nodes.now c.args.self.front.orders c.args.atom c.in-len1-up.len_at_least c.in-Sequence.is c.args.self.tree _ _ _ c.take_first-next.ensures in search rules

pub returns-then-k-middle : goal.returns-then-k-middle
returns-then-k-middle t c = in_right c.args.self.front.nodes.now c.args.self.front.orders c.args.atom c.in-len1-up.len_at_least c.in-Sequence.is c.args.self.tree _ _ _ c.take_first-next.ensures c.args.k c.if-k-middle.true _ c.after.ensures

pub invariant_of-after-in-When : goal.invariant_of-after-in-When
invariant_of-after-in-When t c = record { tree = some_part c.args.self.front.nodes.now c.in-len1-up.len_at_least _ c.in-When.is c.args.self.front.orders (guarded _) (guarding _) c.args.self.tree }

pub invariant_of-body : goal.invariant_of-body
invariant_of-body t c = record { tree = some_part c.args.self.front.nodes.now c.in-len1-up.len_at_least _ c.in-While.is c.args.self.front.orders (looped _) (looping _) c.args.self.tree }

pub returns-in-Order : goal.returns-in-Order
returns-in-Order t c = after_order c.args.self.front.nodes.now c.in-len1-up.len_at_least c.args.self.front.orders c.args.atom c.args.k _ c.in-Order.is

pub returns-in-Test : goal.returns-in-Test
returns-in-Test t c = after_test c.args.self.front.nodes.now c.in-len1-up.len_at_least c.args.self.front.orders c.args.atom c.args.k _ c.in-Test.is

pub returns-in-Sequence-last : goal.returns-in-Sequence-last
returns-in-Sequence-last t c =
    after_left c.args.self.front.nodes.now c.in-len1-up.len_at_least _ c.in-Sequence-last.is c.args.self.front.orders c.args.atom joined sequence _ _ _ c.take_first-next.ensures c.args.k c.if-k-middle.false _ c.after-left.ensures _
    (λ l r n le x y. c.then.ensures ∙ (λ j. then_move (x j) (y j)) ∙ sym (upto _ _ _ _ le))

pub returns-in_default-last : goal.returns-in_default-last
returns-in_default-last t c =
    elim c.in-Sequence.is [
      | inl e ↦ absurd (c.in_default-last.not-Sequence e)
      | inr w ↦
          after_left c.args.self.front.nodes.now c.in-len1-up.len_at_least _ w.1 c.args.self.front.orders c.args.atom (branched _) (branching w.0) _ _ _ c.take_first-next.ensures c.args.k c.if-k-middle.false _ c.after-left.ensures _
          (λ l r n le x y. x ∙ sym (upto _ _ _ _ le))
    ]

pub returns-in-When : goal.returns-in-When
returns-in-When t c =
    after_one c.args.self.front.nodes.now c.in-len1-up.len_at_least _ c.in-When.is c.args.self.front.orders c.args.atom (guarded _) (guarding _) c.args.k _ c.after-in-When.ensures _
    (λ l f n e w x. let r = c.requires.reached in x ∙ sym (upto c.args.k (n + orders_in (expr_of l)) _ _ (omega arith)))

pub returns-in-Accept : goal.returns-in-Accept
returns-in-Accept t c =
    after_one c.args.self.front.nodes.now c.in-len1-up.len_at_least _ c.in-While.is c.args.self.front.orders c.args.atom (looped _) (looping _) c.args.k Accept c.in-Accept.ensures _
    (λ l f n e w x. c.enter.ensures l f n e ∙ ap (λ (m : Move Said). then_move m (again c.in-While.set.bits c.args.atom l n)) x)

pub returns-in_default-after : goal.returns-in_default-after
returns-in_default-after t c =
    after_one c.args.self.front.nodes.now c.in-len1-up.len_at_least _ c.in-While.is c.args.self.front.orders c.args.atom (looped _) (looping _) c.args.k c.after-in-While.result c.after-in-While.ensures _
    (λ l f n e w x. sym (then_rest c.after-in-While.result (again c.in-While.set.bits c.args.atom l n) c.in_default-after.not-Accept) ∙ ap (λ (m : Move Said). then_move m (again c.in-While.set.bits c.args.atom l n)) x)
