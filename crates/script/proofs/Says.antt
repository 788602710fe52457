-- What the walk says of the tree that a list ends with, from what it says of the trees below the last node.
use Rattle.std.proofs.Common.{◌≡◌, ℕ, ◌+◌, ◌-◌, ◌<◌, ◌≤◌, Bool, cond, leb, List, ◌++◌, length, sym, refl, ap, ◌∙◌, subst, arith, append-nil, length-append}
use Rattle.std.proofs.Math.Logic.{∥∥₁_map, ∥∥₁_elim}
use Rattle.std.proofs.Math.Bridge.{le_prop}
use Rattle.std.proofs.lemmas.Bool.{le-leb, lt-leb}
use Rattle.labels.specs.declared.Order.{Order as Said}
use Rattle.atoms.specs.declared.AtomSet.{AtomSet}
use Rattle.atoms.specs.Sets.{member}
use Rattle.automata.specs.declared.Move.{Move}
use Rattle.automata.specs.declared.Move.TheVariants.{Accept, Reject, Step}
use Rattle.automata.specs.Walks.{first_move, after_move, then_move, orders_in}
use Rattle.script.specs.declared.node.Node.{Node}
use Rattle.script.specs.declared.node.Node.TheVariants.{Order, Test}
use Rattle.script.specs.Trees.{Tree, orders, expr_of}
use Rattle.script.specs.Lists.{code, Ends, SomeTree}
use Rattle.script.specs.MachineLaws.{orders_expr}
use Rattle.script.proofs.Parts.{Double, Single, body_of, last_node, below, two, one, last_of, of_order, of_test, below_shorter}

-- the first move of the tree that a list ends with, the nodes before the tree, and the orders among them
abbrev pub Says : List Node → ℕ → ℕ → Move Said → List Node → ℕ → Type 0
Says ns k a mv rest before =
    (t : Tree) (front : List Node) (n : ℕ) → Ends ns k t front n → (mv ≡ first_move (expr_of t) n a) × (rest ≡ front) × (before ≡ n)

-- the same for one tree
abbrev Fits : ℕ → Move Said → List Node → ℕ → List Node → ℕ → Tree → Type 0
Fits a mv rest before front n t = (mv ≡ first_move (expr_of t) n a) × (rest ≡ front) × (before ≡ n)

-- the move after the order with the number j
abbrev pub SaysAfter : List Node → ℕ → ℕ → ℕ → Move Said → Type 0
SaysAfter ns k a j mv = (t : Tree) (front : List Node) (n : ℕ) → Ends ns k t front n → mv ≡ after_move (expr_of t) n j a

module _ (ns : List Node) (some : 1 ≤ length ns) (k a : ℕ) where
  pub says_order : (o : Said) → last_node ns ≡ Order o → (before : ℕ) → before ≡ k - 1 → Says ns k a (Step o k) (below ns) before
  says_order o is before b t front n e =
      let p = last_of ns some (Order o) is k t front n e in
      let t_is = of_order t o p.1 in
      let c = ap orders t_is in
      let d = e.count in
      let k_is : k ≡ n + 1 = omega arith in
      subst (Fits a (Step o k) (below ns) before front n) (sym t_is) (ap (Step o) k_is, p.0 ∙ ap (λ (xs : List Node). front ++ xs) (ap body_of t_is) ∙ append-nil front, omega arith)

  pub says_test : (s : AtomSet) → last_node ns ≡ Test s → (mv : Move Said) → mv ≡ cond (member s.bits a) Accept Reject → Says ns k a mv (below ns) k
  says_test s is mv m t front n e =
      let p = last_of ns some (Test s) is k t front n e in
      let t_is = of_test t s p.1 in
      let c = ap orders t_is in
      let d = e.count in
      subst (Fits a mv (below ns) k front n) (sym t_is) (m, p.0 ∙ ap (λ (xs : List Node). front ++ xs) (ap body_of t_is) ∙ append-nil front, omega arith)

  pub after_order : (j : ℕ) (o : Said) → last_node ns ≡ Order o → SaysAfter ns k a j Accept
  after_order j o is t front n e = sym (ap (λ (x : Tree). after_move (expr_of x) n j a) (of_order t o (last_of ns some (Order o) is k t front n e).1))

  pub after_test : (j : ℕ) (s : AtomSet) → last_node ns ≡ Test s → SaysAfter ns k a j Reject
  after_test j s is t front n e = sym (ap (λ (x : Tree). after_move (expr_of x) n j a) (of_test t s (last_of ns some (Test s) is k t front n e).1))

module _ (ns : List Node) (some : 1 ≤ length ns) (last : Node) (is : last_node ns ≡ last) (k a : ℕ) where
  -- two trees below the last node
  module _ (f : Tree → Tree → Tree) (d : Double last f) (mr : Move Said) (rest : List Node) (before : ℕ) (on-r : Says (below ns) k a mr rest before) where
    -- the left one, before the right
    left_ends : (t : Tree) (front : List Node) (n : ℕ) → Ends ns k t front n → (l : Tree) × Ends rest before l front n
    left_ends t front n e =
        let w = two ns some last is k f d t front n e in
        let r = on-r w.right (front ++ code w.left) (n + orders w.left) w.on_right in
        (w.left, record { nodes = r.1; count = r.2 })

    pub some_left : ∥ SomeTree ns k ∥₁ → ∥ SomeTree rest before ∥₁
    some_left h = ∥∥₁_map h (λ s. let w = left_ends s.0 s.1 s.2 s.3 in (w.0, s.1, s.2, w.1))

    pub shorter : ∥ SomeTree ns k ∥₁ → length rest < length ns
    shorter h =
        ∥∥₁_elim h le_prop (λ s.
        let w = two ns some last is k f d s.0 s.1 s.2 s.3 in
        let r = on-r w.right (s.1 ++ code w.left) (s.2 + orders w.left) w.on_right in
        let b = below_shorter ns some last is k in
        let l = ap length w.on_right.nodes ∙ length-append (s.1 ++ code w.left) (code w.right) in
        let m = ap length r.1 in
        omega arith)

    pub says_two : (ml : Move Said) (rl : List Node) (bl : ℕ) → Says rest before a ml rl bl → (mv : Move Said)
        → ((l r : Tree) (n : ℕ) → ml ≡ first_move (expr_of l) n a → mr ≡ first_move (expr_of r) (n + orders_in (expr_of l)) a → mv ≡ first_move (expr_of (f l r)) n a)
        → Says ns k a mv rl bl
    says_two ml rl bl on-l mv from t front n e =
        let w = two ns some last is k f d t front n e in
        let r = on-r w.right (front ++ code w.left) (n + orders w.left) w.on_right in
        let l = on-l w.left front n (record { nodes = r.1; count = r.2 }) in
        subst (Fits a mv rl bl front n) (sym w.is)
        (from w.left w.right n l.0 (r.0 ∙ ap (λ (x : ℕ). first_move (expr_of w.right) (n + x) a) (sym (orders_expr w.left))), l.1, l.2)

    pub after_right : (j : ℕ) → before < j → (mv : Move Said) → SaysAfter (below ns) k a j mv
        → ((l r : Tree) (n : ℕ) → n + orders_in (expr_of l) < j → after_move (expr_of r) (n + orders_in (expr_of l)) j a ≡ after_move (expr_of (f l r)) n j a)
        → SaysAfter ns k a j mv
    after_right j lt mv on from t front n e =
        let w = two ns some last is k f d t front n e in
        let b = (on-r w.right (front ++ code w.left) (n + orders w.left) w.on_right).2 in
        let o = orders_expr w.left in
        subst (λ (x : Tree). mv ≡ after_move (expr_of x) n j a) (sym w.is)
        (on w.right (front ++ code w.left) (n + orders w.left) w.on_right
        ∙ ap (λ (x : ℕ). after_move (expr_of w.right) (n + x) j a) (sym o)
        ∙ from w.left w.right n (omega arith))

    pub after_left : (j : ℕ) → j ≤ before → (ml : Move Said) → SaysAfter rest before a j ml → (mv : Move Said)
        → ((l r : Tree) (n : ℕ) → j ≤ n + orders_in (expr_of l) → ml ≡ after_move (expr_of l) n j a → mr ≡ first_move (expr_of r) (n + orders_in (expr_of l)) a → mv ≡ after_move (expr_of (f l r)) n j a)
        → SaysAfter ns k a j mv
    after_left j le ml on mv from t front n e =
        let w = two ns some last is k f d t front n e in
        let r = on-r w.right (front ++ code w.left) (n + orders w.left) w.on_right in
        let b = r.2 in
        let o = orders_expr w.left in
        subst (λ (x : Tree). mv ≡ after_move (expr_of x) n j a) (sym w.is)
        (from w.left w.right n (omega arith)
        (on w.left front n (record { nodes = r.1; count = r.2 }))
        (r.0 ∙ ap (λ (x : ℕ). first_move (expr_of w.right) (n + x) a) (sym o)))

  -- one tree below the last node
  module _ (f : Tree → Tree) (d : Single last f) where
    pub says_one : (mb : Move Said) (rest : List Node) (before : ℕ) → Says (below ns) k a mb rest before → (mv : Move Said)
        → ((l : Tree) (n : ℕ) → mb ≡ first_move (expr_of l) n a → mv ≡ first_move (expr_of (f l)) n a) → Says ns k a mv rest before
    says_one mb rest before on-b mv from t front n e =
        let w = one ns some last is k f d t front n e in
        let b = on-b w.part front n w.on_part in
        subst (Fits a mv rest before front n) (sym w.is) (from w.part n b.0, b.1, b.2)

    pub after_one : (j : ℕ) (mb : Move Said) → SaysAfter (below ns) k a j mb → (mv : Move Said)
        → ((l : Tree) (front : List Node) (n : ℕ) → Ends (below ns) k l front n → k ≡ n + orders_in (expr_of l) → mb ≡ after_move (expr_of l) n j a → mv ≡ after_move (expr_of (f l)) n j a)
        → SaysAfter ns k a j mv
    after_one j mb on mv from t front n e =
        let w = one ns some last is k f d t front n e in
        let o = orders_expr w.part in
        let c = w.on_part.count in
        subst (λ (x : Tree). mv ≡ after_move (expr_of x) n j a) (sym w.is) (from w.part front n w.on_part (omega arith) (on w.part front n w.on_part))

pub upto : {A : Type 0} (k n : ℕ) (x y : A) → k ≤ n → cond (leb k n) x y ≡ x
upto k n x y h = ap (λ (b : Bool). cond b x y) (le-leb k n h)

pub over : {A : Type 0} (k n : ℕ) (x y : A) → n < k → cond (leb k n) x y ≡ y
over k n x y h = ap (λ (b : Bool). cond b x y) (lt-leb k n h)

pub then_rest : (m n : Move Said) → (m ≡ Accept → ⊥) → then_move m n ≡ m
then_rest Accept n h = absurd (h refl)
then_rest Reject n h = refl
then_rest (Step l t) n h = refl
