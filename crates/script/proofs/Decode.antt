-- A list of nodes holds a tree exactly when reading the nodes one by one leaves that tree.
use Rattle.std.proofs.Common.{◌≡◌, ◌+◌, ◌≤◌, Bool, true, false, List, [], ◌∷◌, ◌++◌, length, take, Some, Option, sym, refl, ap, ◌∙◌, append_assoc, arith, length-append}
use Rattle.std.proofs.Math.Seq.{take-append_seam}
use Rattle.script.specs.declared.node.Node.{Node}
use Rattle.script.specs.declared.node.Node.TheVariants.{Blank, Order, Test, Sequence, If, When, While}
use Rattle.script.specs.Trees.{Tree, ordered, tested, joined, branched, guarded, looped}
use Rattle.script.specs.Lists.{code, all_blank, Holds, one, two, alone, when_blank, going_on, parsed, used}

-- reading a tree's nodes leaves the tree
pub parsed_code : (t : Tree) (ns : List Node) (st : List Tree) → parsed (code t ++ ns) st ≡ parsed ns (t ∷ st)
parsed_code (ordered o) ns st = refl
parsed_code (tested s) ns st = refl
parsed_code (joined l r) ns st =
    ap (λ (xs : List Node). parsed xs st) (append_assoc (code l) (code r ++ (Sequence ∷ [])) ns)
    ∙ parsed_code l ((code r ++ (Sequence ∷ [])) ++ ns) st
    ∙ ap (λ (xs : List Node). parsed xs (l ∷ st)) (append_assoc (code r) (Sequence ∷ []) ns)
    ∙ parsed_code r (Sequence ∷ ns) (l ∷ st)
parsed_code (branched s l r) ns st =
    ap (λ (xs : List Node). parsed xs st) (append_assoc (code l) (code r ++ (If (record { bits = s }) ∷ [])) ns)
    ∙ parsed_code l ((code r ++ (If (record { bits = s }) ∷ [])) ++ ns) st
    ∙ ap (λ (xs : List Node). parsed xs (l ∷ st)) (append_assoc (code r) (If (record { bits = s }) ∷ []) ns)
    ∙ parsed_code r (If (record { bits = s }) ∷ ns) (l ∷ st)
parsed_code (guarded s l) ns st =
    ap (λ (xs : List Node). parsed xs st) (append_assoc (code l) (When (record { bits = s }) ∷ []) ns) ∙ parsed_code l (When (record { bits = s }) ∷ ns) st
parsed_code (looped s l) ns st =
    ap (λ (xs : List Node). parsed xs st) (append_assoc (code l) (While (record { bits = s }) ∷ []) ns) ∙ parsed_code l (While (record { bits = s }) ∷ ns) st

-- blank nodes leave the trees as they are
blanks_parsed : (ns : List Node) (t : Tree) → all_blank ns ≡ true → parsed ns (t ∷ []) ≡ Some t
blanks_parsed [] t h = refl
blanks_parsed (Blank ∷ ns) t h = ap (λ (b : Bool). when_blank b (Some t)) h
blanks_parsed (Order o ∷ ns) t h = absurd (cc)
blanks_parsed (Test s ∷ ns) t h = absurd (cc)
blanks_parsed (Sequence ∷ ns) t h = absurd (cc)
blanks_parsed (If s ∷ ns) t h = absurd (cc)
blanks_parsed (When s ∷ ns) t h = absurd (cc)
blanks_parsed (While s ∷ ns) t h = absurd (cc)

pub holds_parsed : (ns : List Node) (t : Tree) → Holds ns t → parsed ns [] ≡ Some t
holds_parsed ns t h = ap (λ (xs : List Node). parsed xs []) h.nodes ∙ parsed_code t h.rest [] ∙ blanks_parsed h.rest t h.blanks

-- the nodes of trees, the nearest last
abbrev codes : List Tree → List Node
codes [] = []
codes (t ∷ st) = codes st ++ code t

record Left (ns : List Node) (st : List Tree) (t : Tree) : Type 0 where
  rest : List Node
  nodes : codes st ++ ns ≡ code t ++ rest
  blanks : all_blank rest ≡ true

alone_left : (ns : List Node) (st : List Tree) (t : Tree) → all_blank ns ≡ true → alone st ≡ Some t → Left ns st t
alone_left ns [] t b h = absurd (cc)
alone_left ns (u ∷ []) t b h = let s : u ≡ t = cc in record { rest = ns; nodes = ap (λ (x : Tree). code x ++ ns) s; blanks = b }
alone_left ns (u ∷ v ∷ st) t b h = absurd (cc)

pub when_some : (b : Bool) (o : Option Tree) (t : Tree) → when_blank b o ≡ Some t → (b ≡ true) × (o ≡ Some t)
when_some true o t h = (refl, h)
when_some false o t h = absurd (cc)

-- a node that joins the two nearest trees, or takes the nearest
module _ (n : Node) (ns : List Node) (t : Tree) where
  join_two : (f : Tree → Tree → Tree) → ((l r : Tree) → code (f l r) ≡ code l ++ (code r ++ (n ∷ []))) → (st : List Tree)
      → ((st : List Tree) → parsed ns st ≡ Some t → Left ns st t) → going_on (parsed ns) (two f st) ≡ Some t → Left (n ∷ ns) st t
  join_two f cf [] ih h = absurd (cc)
  join_two f cf (r ∷ []) ih h = absurd (cc)
  join_two f cf (r ∷ l ∷ st) ih h =
      let d = ih (f l r ∷ st) h in
      record {
        rest = d.rest;
        nodes =
            append_assoc (codes st ++ code l) (code r) (n ∷ ns)
            ∙ append_assoc (codes st) (code l) (code r ++ (n ∷ ns))
            ∙ ap (λ (xs : List Node). codes st ++ (code l ++ xs)) (sym (append_assoc (code r) (n ∷ []) ns))
            ∙ ap (λ (xs : List Node). codes st ++ xs) (sym (append_assoc (code l) (code r ++ (n ∷ [])) ns))
            ∙ sym (append_assoc (codes st) (code l ++ (code r ++ (n ∷ []))) ns)
            ∙ ap (λ (xs : List Node). (codes st ++ xs) ++ ns) (sym (cf l r))
            ∙ d.nodes;
        blanks = d.blanks;
      }

  join_one : (f : Tree → Tree) → ((l : Tree) → code (f l) ≡ code l ++ (n ∷ [])) → (st : List Tree)
      → ((st : List Tree) → parsed ns st ≡ Some t → Left ns st t) → going_on (parsed ns) (one f st) ≡ Some t → Left (n ∷ ns) st t
  join_one f cf [] ih h = absurd (cc)
  join_one f cf (l ∷ st) ih h =
      let d = ih (f l ∷ st) h in
      record {
        rest = d.rest;
        nodes =
            append_assoc (codes st) (code l) (n ∷ ns)
            ∙ ap (λ (xs : List Node). codes st ++ xs) (sym (append_assoc (code l) (n ∷ []) ns))
            ∙ sym (append_assoc (codes st) (code l ++ (n ∷ [])) ns)
            ∙ ap (λ (xs : List Node). (codes st ++ xs) ++ ns) (sym (cf l))
            ∙ d.nodes;
        blanks = d.blanks;
      }

  leaf : (u : Tree) → code u ≡ n ∷ [] → (st : List Tree) → ((st : List Tree) → parsed ns st ≡ Some t → Left ns st t) → parsed ns (u ∷ st) ≡ Some t → Left (n ∷ ns) st t
  leaf u cu st ih h =
      let d = ih (u ∷ st) h in
      record {
        rest = d.rest;
        nodes = sym (append_assoc (codes st) (n ∷ []) ns) ∙ ap (λ (xs : List Node). (codes st ++ xs) ++ ns) (sym cu) ∙ d.nodes;
        blanks = d.blanks;
      }

left : (ns : List Node) (st : List Tree) (t : Tree) → parsed ns st ≡ Some t → Left ns st t
left [] st t h = alone_left [] st t refl h
left (Blank ∷ ns) st t h =
    let w = when_some (all_blank ns) (alone st) t h in
    alone_left (Blank ∷ ns) st t w.0 w.1
left (Order o ∷ ns) st t h = leaf (Order o) ns t (ordered o) refl st (λ u. left ns u t) h
left (Test s ∷ ns) st t h = leaf (Test s) ns t (tested s.bits) refl st (λ u. left ns u t) h
left (Sequence ∷ ns) st t h = join_two Sequence ns t joined (λ l r. refl) st (λ u. left ns u t) h
left (If s ∷ ns) st t h = join_two (If s) ns t (branched s.bits) (λ l r. refl) st (λ u. left ns u t) h
left (When s ∷ ns) st t h = join_one (When s) ns t (guarded s.bits) (λ l. refl) st (λ u. left ns u t) h
left (While s ∷ ns) st t h = join_one (While s) ns t (looped s.bits) (λ l. refl) st (λ u. left ns u t) h

pub parsed_holds : (ns : List Node) (t : Tree) → parsed ns [] ≡ Some t → Holds ns t
parsed_holds ns t h = let d = left ns [] t h in record { rest = d.rest; nodes = d.nodes; blanks = d.blanks }

used_two : (t l r : Tree) (n : Node) → code t ≡ code l ++ (code r ++ (n ∷ [])) → (ns : List Node) → used (n ∷ ns) ≡ 1 + used ns
    → ((xs : List Node) → used (code l ++ xs) ≡ length (code l) + used xs) → ((xs : List Node) → used (code r ++ xs) ≡ length (code r) + used xs)
    → used (code t ++ ns) ≡ length (code t) + used ns
used_two t l r n ct ns un ul ur =
    let a = ap (λ (xs : List Node). used (xs ++ ns)) ct ∙ ap used (append_assoc (code l) (code r ++ (n ∷ [])) ns ∙ ap (λ (xs : List Node). code l ++ xs) (append_assoc (code r) (n ∷ []) ns)) in
    let b = ul (code r ++ (n ∷ ns)) in
    let c = ur (n ∷ ns) in
    let e = ap length ct ∙ length-append (code l) (code r ++ (n ∷ [])) in
    let f = length-append (code r) (n ∷ []) in
    omega arith

used_one : (t l : Tree) (n : Node) → code t ≡ code l ++ (n ∷ []) → (ns : List Node) → used (n ∷ ns) ≡ 1 + used ns
    → ((xs : List Node) → used (code l ++ xs) ≡ length (code l) + used xs) → used (code t ++ ns) ≡ length (code t) + used ns
used_one t l n ct ns un ul =
    let a = ap (λ (xs : List Node). used (xs ++ ns)) ct ∙ ap used (append_assoc (code l) (n ∷ []) ns) in
    let b = ul (n ∷ ns) in
    let e = ap length ct ∙ length-append (code l) (n ∷ []) in
    omega arith

-- a tree's nodes are not blank
used_code : (t : Tree) (ns : List Node) → used (code t ++ ns) ≡ length (code t) + used ns
used_code (ordered o) ns = refl
used_code (tested s) ns = refl
used_code (joined l r) ns = used_two (joined l r) l r Sequence refl ns refl (used_code l) (used_code r)
used_code (branched s l r) ns = used_two (branched s l r) l r (If (record { bits = s })) refl ns refl (used_code l) (used_code r)
used_code (guarded s l) ns = used_one (guarded s l) l (When (record { bits = s })) refl ns refl (used_code l)
used_code (looped s l) ns = used_one (looped s l) l (While (record { bits = s })) refl ns refl (used_code l)

used_blank : (ns : List Node) → all_blank ns ≡ true → used ns ≡ 0
used_blank [] h = refl
used_blank (Blank ∷ ns) h = refl
used_blank (Order o ∷ ns) h = absurd (cc)
used_blank (Test s ∷ ns) h = absurd (cc)
used_blank (Sequence ∷ ns) h = absurd (cc)
used_blank (If s ∷ ns) h = absurd (cc)
used_blank (When s ∷ ns) h = absurd (cc)
used_blank (While s ∷ ns) h = absurd (cc)

-- a list that holds a tree has as many used nodes as the tree has nodes
pub holds_used : (ns : List Node) (t : Tree) → Holds ns t → used ns ≡ length (code t)
holds_used ns t h =
    let a = ap used h.nodes ∙ used_code t h.rest in
    let b = used_blank h.rest h.blanks in
    omega arith

-- the used nodes of a list that holds a tree are the tree's
pub holds_front : (ns : List Node) (t : Tree) → Holds ns t → take (used ns) ns ≡ code t
holds_front ns t h = (λ i. take (holds_used ns t h i) (h.nodes i)) ∙ take-append_seam (code t) h.rest

pub holds_within : (ns : List Node) (t : Tree) → Holds ns t → used ns ≤ length ns
holds_within ns t h =
    let a = ap length h.nodes ∙ length-append (code t) h.rest in
    let b = holds_used ns t h in
    omega arith
