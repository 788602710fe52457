-- Nodes that end with those of a tree, taken apart at their last node.
use Rattle.std.proofs.Common.{◌≡◌, ℕ, ◌+◌, ◌-◌, ◌<◌, ◌≤◌, List, [], ◌∷◌, ◌++◌, length, take, slice_index_or, sym, refl, ap, ◌∙◌, arith, append_assoc, length-append}
use Rattle.std.proofs.Math.Logic.{∥∥₁_map, ∥∥₁_elim}
use Rattle.std.proofs.Math.Bridge.{le_prop}
use Rattle.std.proofs.lemmas.Grind.{not_there}
use Rattle.std.proofs.lemmas.List.{take_more, take_all}
use Rattle.labels.specs.declared.Order.{Order as Said}
use Rattle.atoms.specs.declared.AtomSet.{AtomSet}
use Rattle.script.specs.declared.node.Node.{Node}
use Rattle.script.specs.declared.node.Node.TheVariants.{Blank, Order, Test, Sequence, If, When, While}
use Rattle.script.specs.Trees.{Tree, ordered, tested, joined, branched, guarded, looped, orders}
use Rattle.script.specs.Lists.{code, Ends, SomeTree}

-- the last node of a tree
abbrev pub top_of : Tree → Node
top_of (ordered o) = Order o
top_of (tested s) = Test (record { bits = s })
top_of (joined l r) = Sequence
top_of (branched s l r) = If (record { bits = s })
top_of (guarded s l) = When (record { bits = s })
top_of (looped s l) = While (record { bits = s })

-- the nodes of a tree before its last
abbrev pub body_of : Tree → List Node
body_of (ordered o) = []
body_of (tested s) = []
body_of (joined l r) = code l ++ code r
body_of (branched s l r) = code l ++ code r
body_of (guarded s l) = code l
body_of (looped s l) = code l

code_is : (t : Tree) → code t ≡ body_of t ++ (top_of t ∷ [])
code_is (ordered o) = refl
code_is (tested s) = refl
code_is (joined l r) = sym (append_assoc (code l) (code r) (Sequence ∷ []))
code_is (branched s l r) = sym (append_assoc (code l) (code r) (If (record { bits = s }) ∷ []))
code_is (guarded s l) = refl
code_is (looped s l) = refl

not_empty : (xs : List Node) (x : Node) → [] ≡ xs ++ (x ∷ []) → ⊥
not_empty xs x e = let l = ap length e ∙ length-append xs (x ∷ []) in omega arith

-- lists that are equal have equal fronts and equal last elements
same_end : (xs ys : List Node) (x y : Node) → xs ++ (x ∷ []) ≡ ys ++ (y ∷ []) → (xs ≡ ys) × (x ≡ y)
same_end [] [] x y e = (refl, cc)
same_end [] (b ∷ ys) x y e = absurd (not_empty ys y (let s : [] ≡ ys ++ (y ∷ []) = cc in s))
same_end (a ∷ xs) [] x y e = absurd (not_empty xs x (let s : [] ≡ xs ++ (x ∷ []) = cc in s))
same_end (a ∷ xs) (b ∷ ys) x y e =
    let s : xs ++ (x ∷ []) ≡ ys ++ (y ∷ []) = cc in
    let r = same_end xs ys x y s in
    let h : a ≡ b = cc in
    ((λ i. h i ∷ r.0 i), r.1)

-- the last node of a list, and the nodes below it
abbrev pub last_node : List Node → Node
last_node ns = slice_index_or ns (length ns - 1) Blank

abbrev pub below : List Node → List Node
below ns = take (length ns - 1) ns

cut : (ns : List Node) (last : Node) → 1 ≤ length ns → last_node ns ≡ last → ns ≡ below ns ++ (last ∷ [])
cut ns last some is =
    sym (take_all (length ns - 1 + 1) ns (omega arith)) ∙ take_more ns (length ns - 1) Blank (omega arith) ∙ ap (λ (x : Node). below ns ++ (x ∷ [])) is

-- a kind of node that joins two trees, as f does
pub record Double (last : Node) (f : Tree → Tree → Tree) : Type 0 where
  pub split : (t : Tree) → top_of t ≡ last → (l : Tree) × (r : Tree) × (t ≡ f l r)
  pub body : (l r : Tree) → body_of (f l r) ≡ code l ++ code r
  pub count : (l r : Tree) → orders (f l r) ≡ orders l + orders r

-- a kind of node that stands on one tree, as f does
pub record Single (last : Node) (f : Tree → Tree) : Type 0 where
  pub split : (t : Tree) → top_of t ≡ last → (l : Tree) × (t ≡ f l)
  pub body : (l : Tree) → body_of (f l) ≡ code l
  pub count : (l : Tree) → orders (f l) ≡ orders l

pub sequence : Double Sequence joined
sequence = record { split = split; body = λ l r. refl; count = λ l r. refl }
  where
    split : (t : Tree) → top_of t ≡ Sequence → (l : Tree) × (r : Tree) × (t ≡ joined l r)
    split (ordered o) e = absurd (cc)
    split (tested s) e = absurd (cc)
    split (joined l r) e = (l, r, refl)
    split (branched s l r) e = absurd (cc)
    split (guarded s l) e = absurd (cc)
    split (looped s l) e = absurd (cc)

pub branching : (c : AtomSet) → Double (If c) (branched c.bits)
branching c = record { split = split; body = λ l r. refl; count = λ l r. refl }
  where
    split : (t : Tree) → top_of t ≡ If c → (l : Tree) × (r : Tree) × (t ≡ branched c.bits l r)
    split (ordered o) e = absurd (cc)
    split (tested s) e = absurd (cc)
    split (joined l r) e = absurd (cc)
    split (branched s l r) e = let h : record { bits = s } ≡ c = cc in (l, r, λ i. branched (h i).bits l r)
    split (guarded s l) e = absurd (cc)
    split (looped s l) e = absurd (cc)

pub guarding : (c : AtomSet) → Single (When c) (guarded c.bits)
guarding c = record { split = split; body = λ l. refl; count = λ l. refl }
  where
    split : (t : Tree) → top_of t ≡ When c → (l : Tree) × (t ≡ guarded c.bits l)
    split (ordered o) e = absurd (cc)
    split (tested s) e = absurd (cc)
    split (joined l r) e = absurd (cc)
    split (branched s l r) e = absurd (cc)
    split (guarded s l) e = let h : record { bits = s } ≡ c = cc in (l, λ i. guarded (h i).bits l)
    split (looped s l) e = absurd (cc)

pub looping : (c : AtomSet) → Single (While c) (looped c.bits)
looping c = record { split = split; body = λ l. refl; count = λ l. refl }
  where
    split : (t : Tree) → top_of t ≡ While c → (l : Tree) × (t ≡ looped c.bits l)
    split (ordered o) e = absurd (cc)
    split (tested s) e = absurd (cc)
    split (joined l r) e = absurd (cc)
    split (branched s l r) e = absurd (cc)
    split (guarded s l) e = absurd (cc)
    split (looped s l) e = let h : record { bits = s } ≡ c = cc in (l, λ i. looped (h i).bits l)

module _ (ns : List Node) (some : 1 ≤ length ns) (last : Node) (is_last : last_node ns ≡ last) (k : ℕ) where
  -- what the last node and those below it are to a tree that the list ends with
  pub last_of : (t : Tree) (front : List Node) (n : ℕ) → Ends ns k t front n → (below ns ≡ front ++ body_of t) × (last ≡ top_of t)
  last_of t front n e =
      same_end (below ns) (front ++ body_of t) last (top_of t)
      (sym (cut ns last some is_last) ∙ e.nodes ∙ ap (λ (xs : List Node). front ++ xs) (code_is t) ∙ sym (append_assoc front (body_of t) (top_of t ∷ [])))

  -- two trees below the last node
  pub record Two (f : Tree → Tree → Tree) (t : Tree) (front : List Node) (n : ℕ) : Type 0 where
    pub left : Tree
    pub right : Tree
    pub is : t ≡ f left right
    pub on_right : Ends (below ns) k right (front ++ code left) (n + orders left)

  pub two : (f : Tree → Tree → Tree) → Double last f → (t : Tree) (front : List Node) (n : ℕ) → Ends ns k t front n → Two f t front n
  two f d t front n e =
      let p = last_of t front n e in
      let s = d.split t (sym p.1) in
      let c = ap orders s.2 in
      let o = d.count s.0 s.1 in
      let b = e.count in
      record {
        left = s.0;
        right = s.1;
        is = s.2;
        on_right = record {
          nodes = p.0 ∙ ap (λ (xs : List Node). front ++ xs) (ap body_of s.2 ∙ d.body s.0 s.1) ∙ sym (append_assoc front (code s.0) (code s.1));
          count = omega arith;
        };
      }

  -- one tree below the last node
  pub record One (f : Tree → Tree) (t : Tree) (front : List Node) (n : ℕ) : Type 0 where
    pub part : Tree
    pub is : t ≡ f part
    pub on_part : Ends (below ns) k part front n

  pub one : (f : Tree → Tree) → Single last f → (t : Tree) (front : List Node) (n : ℕ) → Ends ns k t front n → One f t front n
  one f d t front n e =
      let p = last_of t front n e in
      let s = d.split t (sym p.1) in
      let c = ap orders s.1 in
      let o = d.count s.0 in
      let b = e.count in
      record {
        part = s.0;
        is = s.1;
        on_part = record { nodes = p.0 ∙ ap (λ (xs : List Node). front ++ xs) (ap body_of s.1 ∙ d.body s.0); count = omega arith };
      }

  pub some_right : (f : Tree → Tree → Tree) → Double last f → ∥ SomeTree ns k ∥₁ → ∥ SomeTree (below ns) k ∥₁
  some_right f d h = ∥∥₁_map h (λ s. let w = two f d s.0 s.1 s.2 s.3 in (w.right, s.1 ++ code w.left, s.2 + orders w.left, w.on_right))

  pub some_part : (f : Tree → Tree) → Single last f → ∥ SomeTree ns k ∥₁ → ∥ SomeTree (below ns) k ∥₁
  some_part f d h = ∥∥₁_map h (λ s. let w = one f d s.0 s.1 s.2 s.3 in (w.part, s.1, s.2, w.on_part))

  pub below_shorter : length (below ns) < length ns
  below_shorter = let l = ap length (cut ns last some is_last) ∙ length-append (below ns) (last ∷ []) in omega arith

-- no list that ends with a tree is empty, or ends blank
pub not_blank : (ns : List Node) → 1 ≤ length ns → last_node ns ≡ Blank → (k : ℕ) → ∥ SomeTree ns k ∥₁ → ⊥
not_blank ns some is k h = not_there h (λ s. by s.0 (last_of ns some Blank is k s.0 s.1 s.2 s.3).1)
  where
    by : (t : Tree) → Blank ≡ top_of t → ⊥
    by (ordered o) e = cc
    by (tested s) e = cc
    by (joined l r) e = cc
    by (branched s l r) e = cc
    by (guarded s l) e = cc
    by (looped s l) e = cc

pub not_none : (ns : List Node) (k : ℕ) → length ns < 1 → ∥ SomeTree ns k ∥₁ → ⊥
not_none ns k few h =
    not_there h (λ s. let l = ap length (s.3.nodes ∙ ap (λ (xs : List Node). s.1 ++ xs) (code_is s.0)) ∙ length-append s.1 (body_of s.0 ++ (top_of s.0 ∷ [])) in let m = length-append (body_of s.0) (top_of s.0 ∷ []) in omega arith)

pub of_order : (t : Tree) (o : Said) → Order o ≡ top_of t → t ≡ ordered o
of_order (ordered p) o e = let s : p ≡ o = cc in ap ordered s
of_order (tested s) o e = absurd (cc)
of_order (joined l r) o e = absurd (cc)
of_order (branched s l r) o e = absurd (cc)
of_order (guarded s l) o e = absurd (cc)
of_order (looped s l) o e = absurd (cc)

pub of_test : (t : Tree) (c : AtomSet) → Test c ≡ top_of t → t ≡ tested c.bits
of_test (ordered o) c e = absurd (cc)
of_test (tested s) c e = let h : record { bits = s } ≡ c = cc in λ i. tested (h i).bits
of_test (joined l r) c e = absurd (cc)
of_test (branched s l r) c e = absurd (cc)
of_test (guarded s l) c e = absurd (cc)
of_test (looped s l) c e = absurd (cc)

-- an order stands before the end of a list that ends with one
pub some_order : (ns : List Node) → 1 ≤ length ns → (o : Said) → last_node ns ≡ Order o → (k : ℕ) → ∥ SomeTree ns k ∥₁ → 1 ≤ k
some_order ns some o is k h =
    ∥∥₁_elim h le_prop (λ s. let t = ap orders (of_order s.0 o (last_of ns some (Order o) is k s.0 s.1 s.2 s.3).1) in let c = s.3.count in omega arith)
