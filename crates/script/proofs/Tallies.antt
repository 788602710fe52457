-- What nodes make of the trees before them, in numbers.
use Rattle.std.proofs.Common.{◌≡◌, ℕ, suc, ◌+◌, ◌-◌, ◌<◌, ◌≤◌, Bool, true, false, cond, not, ◌&&◌, List, [], ◌∷◌, length, take, drop, slice_index_or, Some, None, Option, sym, refl, ap, ◌∙◌, add-one, arith, drop-cons}
use Rattle.std.specs.Option.{option_and_then}
use Rattle.std.proofs.lemmas.Bool.{le-leb, lt-leb}
use Rattle.std.proofs.lemmas.List.{length-drop, take_all}
use Rattle.script.specs.declared.node.Node.{Node}
use Rattle.script.specs.declared.Tally.{Tally}
use Rattle.script.specs.Trees.{Tree, steps, orders}
use Rattle.script.specs.Lists.{blank_node, all_blank, one, two, grown, made, alone, when_blank, going_on, parsed_on, parsed, used, most_steps, few_steps, script_in}
use Rattle.script.specs.Extents.{extent_on, extent_of}
use Rattle.script.specs.MachineLaws.{orders_steps}
use Rattle.script.specs.Tallies.{Numbered, made_used, NumberedUsed, Tallied, total_steps, total_orders}

-- the trees after a node
abbrev pub Makes : Node → List Tree → ℕ → ℕ → ℕ → Type 0
Makes n st h s o = (st' : List Tree) × (grown n st ≡ Some st') × Tallied st' h s o

module _ (n : Node) (st : List Tree) (h s o : ℕ) (tallied : Tallied st h s o) where
  pub make_leaf : (u : Tree) → grown n st ≡ Some (u ∷ st) → (p : ℕ) → p ≡ o + orders u → steps u ≡ 1 → Makes n st (h + 1) (s + 1) p
  make_leaf u g p e one-step =
      let a = tallied.many in let b = tallied.steps_are in let c = tallied.orders_are in
      (u ∷ st, g, record { many = omega arith; steps_are = omega arith; orders_are = omega arith })

  pub make_one : (f : Tree → Tree) → grown n st ≡ one f st → ((l : Tree) → (steps (f l) ≡ 1 + steps l) × (orders (f l) ≡ orders l)) → 1 ≤ h → Makes n st h (s + 1) o
  make_one f g cf some = go st tallied g
    where
      go : (xs : List Tree) → Tallied xs h s o → grown n st ≡ one f xs → Makes n st h (s + 1) o
      go [] y g = let a = y.many in absurd (omega arith)
      go (l ∷ xs) y g =
          let a = y.many in let b = y.steps_are in let c = y.orders_are in let d = (cf l).0 in let e = (cf l).1 in
          (f l ∷ xs, g, record { many = omega arith; steps_are = omega arith; orders_are = omega arith })

  pub make_two : (f : Tree → Tree → Tree) (d : ℕ) → grown n st ≡ two f st → ((l r : Tree) → (steps (f l r) ≡ d + steps l + steps r) × (orders (f l r) ≡ orders l + orders r))
      → 2 ≤ h → (p : ℕ) → p ≡ s + d → Makes n st (h - 1) p o
  make_two f d g cf some p e = go st tallied g
    where
      go : (xs : List Tree) → Tallied xs h s o → grown n st ≡ two f xs → Makes n st (h - 1) p o
      go [] y g = let a = y.many in absurd (omega arith)
      go (r ∷ []) y g = let a = y.many in absurd (omega arith)
      go (r ∷ l ∷ xs) y g =
          let a = y.many in let b = y.steps_are in let c = y.orders_are in let v = (cf l r).0 in let w = (cf l r).1 in
          (f l r ∷ xs, g, record { many = omega arith; steps_are = omega arith; orders_are = omega arith })

-- how far a list of nodes is read: the trees so far, and that what follows them decides
pub record Reached (ns : List Node) (at : ℕ) (y : Tally) : Type 0 where
  pub trees : List Tree
  pub tallied : Tallied trees y.height y.steps y.orders
  pub same : made_used (drop at ns) trees ≡ made_used ns []
  pub front : at + used (drop at ns) ≡ used ns
  pub few_trees : y.height ≤ at
  pub few_steps : y.steps ≤ at
  pub few_orders : y.orders ≤ y.steps

-- a node that is not blank is a used one
used_more : (n : Node) (ns : List Node) → blank_node n ≡ false → used (n ∷ ns) ≡ 1 + used ns
used_more n ns b = ap (λ (x : Bool). cond (not x) (1 + used ns) 0) b

module _ (ns : List Node) (at : ℕ) (y : Tally) (r : Reached ns at y) (d : Node) (lt : at < length ns) (full : blank_node (slice_index_or ns at d) ≡ false) where
  behind : List Node
  behind = drop (suc at) ns

  one_used : used (drop at ns) ≡ suc (used behind)
  unfolding behind
  one_used =
      let one_more : 1 + used (drop (suc at) ns) ≡ suc (used (drop (suc at) ns)) = omega arith in
      ap used (drop-cons ns at d lt) ∙ used_more (slice_index_or ns at d) (drop (suc at) ns) full ∙ one_more

  made_next : made_used (drop at ns) r.trees ≡ option_and_then (made_used behind) (grown (slice_index_or ns at d) r.trees)
  unfolding behind
  made_next = (λ i. made (take (one_used i) (drop-cons ns at d lt i)) r.trees)

  pub go_on : (z : Tally) → Numbered (grown (slice_index_or ns at d) r.trees) (Some z) → z.height ≤ at + 1 → z.steps ≤ at + 1 → z.orders ≤ z.steps → Reached ns (at + 1) z
  unfolding behind
  go_on z m few_trees few_steps few_orders =
      let f = r.front in
      let u = one_used in
      let e = ap (λ (k : ℕ). used (drop k ns)) (add-one at) in
      record {
        trees = m.0;
        tallied = m.2;
        same = ap (λ (k : ℕ). made_used (drop k ns) m.0) (add-one at) ∙ sym (made_next ∙ ap (option_and_then (made_used behind)) m.1) ∙ r.same;
        front = omega arith;
        few_trees = few_trees;
        few_steps = few_steps;
        few_orders = few_orders;
      }

  pub give_up : grown (slice_index_or ns at d) r.trees ≡ None → made_used ns [] ≡ None
  give_up g = sym r.same ∙ made_next ∙ ap (option_and_then (made_used behind)) g

-- the one tree that the first k nodes of a list leave, if the rest is blank
abbrev lone_before : List Node → ℕ → List Tree → Option Tree
lone_before ns k st = when_blank (all_blank (drop k ns)) (alone st)

abbrev read_to : List Node → List Tree → ℕ → Option Tree
read_to ns st k = going_on (lone_before ns k) (made (take k ns) st)

-- reading a list is making trees of the used nodes, and then one tree with blanks behind it
parsed_made : (ns : List Node) (st : List Tree) → parsed ns st ≡ read_to ns st (used ns)
parsed_made [] st = refl
parsed_made (n ∷ ns) st = by (parsed_made ns) (blank_node n) refl
  where
    on : ((ts : List Tree) → parsed ns ts ≡ read_to ns ts (used ns)) → (o : Option (List Tree)) → going_on (parsed ns) o ≡ going_on (lone_before ns (used ns)) (option_and_then (made (take (used ns) ns)) o)
    on next None = refl
    on next (Some ts) = next ts

    by : ((ts : List Tree) → parsed ns ts ≡ read_to ns ts (used ns)) → (b : Bool) → blank_node n ≡ b → parsed (n ∷ ns) st ≡ read_to (n ∷ ns) st (used (n ∷ ns))
    by next true b =
        ap (λ (x : Bool). parsed_on x (when_blank (all_blank ns) (alone st)) (going_on (parsed ns) (grown n st))) b
        ∙ sym (ap (λ (x : Bool). read_to (n ∷ ns) st (cond (not x) (1 + used ns) 0)) b ∙ ap (λ (x : Bool). when_blank (x && all_blank ns) (alone st)) b)
    by next false b =
        let one_more : 1 + used ns ≡ suc (used ns) = omega arith in
        ap (λ (x : Bool). parsed_on x (when_blank (all_blank ns) (alone st)) (going_on (parsed ns) (grown n st))) b
        ∙ on next (grown n st)
        ∙ sym (ap (λ (x : Bool). read_to (n ∷ ns) st (cond (not x) (1 + used ns) 0)) b ∙ ap (read_to (n ∷ ns) st) one_more)

lone : (st : List Tree) → length st ≡ 1 → (t : Tree) × (st ≡ t ∷ [])
lone [] h = absurd (omega arith)
lone (t ∷ []) h = (t, refl)
lone (t ∷ u ∷ st) h = absurd (omega arith)

not_lone : (st : List Tree) → (length st ≡ 1 → ⊥) → alone st ≡ None
not_lone [] h = refl
not_lone (t ∷ []) h = absurd (h refl)
not_lone (t ∷ u ∷ st) h = refl

when_none : (b : Bool) (o : Option Tree) → o ≡ None → when_blank b o ≡ None
when_none true o e = e
when_none false o e = refl

-- what a slice from a place on holds
rest_is : (ns : List Node) (u : ℕ) → take (length ns - u) (drop u ns) ≡ drop u ns
rest_is ns u = let l = length-drop u ns in take_all (length ns - u) (drop u ns) (omega arith)

-- the script in a list, by the trees that its used nodes make
module _ (ns : List Node) where
  script_by : Option (List Tree) → Option Tree
  script_by o = few_steps (going_on (lone_before ns (used ns)) o)

  script_is : script_in ns ≡ script_by (made_used ns [])
  unfolding script_in script_by
  script_is = ap few_steps (parsed_made ns [])

  pub lacking : NumberedUsed ns None → None ≡ extent_of ns
  unfolding script_by
  lacking e = sym (ap (extent_on ns) (script_is ∙ ap script_by e))

  module _ (y : Tally) (u : ℕ) (m : NumberedUsed ns (Some (y, u))) where
    stopped : script_in ns ≡ few_steps (when_blank (all_blank (drop u ns)) (alone m.0.0))
    unfolding script_by
    stopped = script_is ∙ ap script_by m.0.1 ∙ ap (λ (k : ℕ). few_steps (when_blank (all_blank (drop k ns)) (alone m.0.0))) (sym m.1)

    pub not_one : (y.height ≡ 1 → ⊥) → None ≡ extent_of ns
    not_one ne =
        let many = m.0.2.many in
        sym (ap (extent_on ns) (stopped ∙ ap few_steps (when_none (all_blank (drop u ns)) (alone m.0.0) (not_lone m.0.0 (λ e. ne (sym many ∙ e))))))

    pub not_blank : all_blank (take (length ns - u) (drop u ns)) ≡ false → None ≡ extent_of ns
    not_blank b = sym (ap (extent_on ns) (stopped ∙ ap (λ (x : Bool). few_steps (when_blank x (alone m.0.0))) (sym (ap all_blank (rest_is ns u)) ∙ b)))

    module _ (is_one : y.height ≡ 1) where
      tree : Tree
      tree = (lone m.0.0 (m.0.2.many ∙ is_one)).0

      trees_are : m.0.0 ≡ tree ∷ []
      unfolding tree
      trees_are = (lone m.0.0 (m.0.2.many ∙ is_one)).1

      steps_are : steps tree ≡ y.steps
      steps_are = let a = ap total_steps trees_are in let b = m.0.2.steps_are in omega arith

      orders_are : orders tree ≡ y.orders
      orders_are = let a = ap total_orders trees_are in let b = m.0.2.orders_are in omega arith

      pub orders_few : y.orders ≤ y.steps
      orders_few = let a = orders_steps tree in let b = steps_are in let c = orders_are in omega arith

      pub too_many : most_steps < y.steps → None ≡ extent_of ns
      too_many gt =
          sym (ap (extent_on ns) (stopped ∙ ap (λ (ts : List Tree). few_steps (when_blank (all_blank (drop u ns)) (alone ts))) trees_are ∙ by (all_blank (drop u ns))))
        where
          by : (b : Bool) → few_steps (when_blank b (Some tree)) ≡ None
          by true = let e = steps_are in ap (λ (x : Bool). cond x (Some tree) None) (lt-leb (steps tree) most_steps (omega arith))
          by false = refl

      pub whole : y.steps ≤ most_steps → all_blank (take (length ns - u) (drop u ns)) ≡ true → Some (record { used = u; orders = y.orders }) ≡ extent_of ns
      whole le c =
          let v = steps_are in
          let b = sym (ap all_blank (rest_is ns u)) ∙ c in
          let t : script_in ns ≡ Some tree =
          stopped
          ∙ (λ i. few_steps (when_blank (b i) (alone (trees_are i))))
          ∙ ap (λ (x : Bool). cond x (Some tree) None) (le-leb (steps tree) most_steps (omega arith)) in
          sym (ap (extent_on ns) t ∙ (λ i. Some (record { used = sym m.1 i; orders = orders_are i })))
