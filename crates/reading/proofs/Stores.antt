-- Trees put together in the node list.
use Rattle.std.proofs.Common.{◌≡◌, ℕ, ◌+◌, ◌*◌, ◌<◌, ◌≤◌, List, [], ◌∷◌, ◌++◌, length, take, sym, ap, ◌∙◌, append_assoc, arith, length-append}
use Rattle.script.specs.declared.node.Node.{Node}
use Rattle.script.specs.declared.node.Node.TheVariants.{Sequence, If, When, While}
use Rattle.script.specs.Trees.{Tree, ordered, tested, joined, branched, guarded, looped, steps}
use Rattle.script.specs.Lists.{code}
use Rattle.reading.specs.declared.parser.Parser.{Parser}
use Rattle.reading.specs.Stores.{Draft, draft, Counted, Pushed, Stored}

-- a tree has fewer than two nodes for each step
pub short : (t : Tree) → length (code t) + 1 ≤ 2 * steps t
short (ordered o) = omega arith
short (tested s) = omega arith
short (joined l r) =
    let a = short l in let b = short r in
    let c = length-append (code l) (code r ++ (Sequence ∷ [])) in
    let d = length-append (code r) (Sequence ∷ []) in
    omega arith
short (branched s l r) =
    let n : Node = If (record { bits = s }) in
    let a = short l in let b = short r in
    let c = length-append (code l) (code r ++ (n ∷ [])) in
    let d = length-append (code r) (n ∷ []) in
    omega arith
short (guarded s l) = let n : Node = When (record { bits = s }) in let a = short l in let c = length-append (code l) (n ∷ []) in omega arith
short (looped s l) = let n : Node = While (record { bits = s }) in let a = short l in let c = length-append (code l) (n ∷ []) in omega arith

-- there is room for the node that joins a tree to what stands before it
pub room_behind : (before after : Parser) (t : Tree) → Stored 0 (draft before) (draft after) t → after.used < 2 * after.steps
room_behind before after t st =
    let f = st.fill in let n = st.count in let s = short t in let y = before.tight in omega arith

-- a step that was counted first is counted with its tree
pub stored_counted : (before counted : Parser) (after : Draft) (t : Tree) → Counted before counted → Stored 1 (draft counted) after t → Stored 0 (draft before) after t
stored_counted before counted after t c st =
    let a = c.fill in let b = c.count in let d = st.fill in let e = st.count in
    record {
      list = st.list ∙ (λ i. (c.list i).ghost_name);
      nodes = st.nodes ∙ (λ i. take (c.fill i) ((c.list i).now) ++ code t);
      fill = omega arith;
      count = omega arith;
    }

-- a tree in a node
pub stored_one : (f : Tree → Tree) (n : Node) (l : Tree) → code (f l) ≡ code l ++ (n ∷ []) → steps (f l) ≡ 1 + steps l
    → (before : Draft) (mid after : Parser) → Stored 0 before (draft mid) l → Pushed mid n after → Stored 1 before (draft after) (f l)
stored_one f n l cf sf before mid after st p =
    let a = st.fill in let b = st.count in let d = p.fill in let g = p.count in
    let l1 = ap length cf ∙ length-append (code l) (n ∷ []) in
    record {
      list = p.list ∙ st.list;
      nodes =
          p.nodes ∙ ap (λ (xs : List Node). xs ++ (n ∷ [])) st.nodes ∙ append_assoc (take before.used before.nodes.now) (code l) (n ∷ [])
          ∙ ap (λ (xs : List Node). take before.used before.nodes.now ++ xs) (sym cf);
      fill = omega arith;
      count = omega arith;
    }

-- two trees and a node
pub stored_two : (k : ℕ) (f : Tree → Tree → Tree) (n : Node) (l r : Tree) → code (f l r) ≡ code l ++ (code r ++ (n ∷ [])) → steps (f l r) ≡ k + (steps l + steps r)
    → (before mid : Draft) (mid' after : Parser) → Stored 0 before mid l → Stored 0 mid (draft mid') r → Pushed mid' n after → Stored k before (draft after) (f l r)
stored_two k f n l r cf sf before mid mid' after st st' p =
    let a = st.fill in let b = st.count in let a' = st'.fill in let b' = st'.count in let d = p.fill in let g = p.count in
    let l1 = ap length cf ∙ length-append (code l) (code r ++ (n ∷ [])) in
    let l2 = length-append (code r) (n ∷ []) in
    record {
      list = p.list ∙ st'.list ∙ st.list;
      nodes =
          p.nodes
          ∙ ap (λ (xs : List Node). xs ++ (n ∷ [])) (st'.nodes ∙ ap (λ (xs : List Node). xs ++ code r) st.nodes)
          ∙ append_assoc (take before.used before.nodes.now ++ code l) (code r) (n ∷ [])
          ∙ append_assoc (take before.used before.nodes.now) (code l) (code r ++ (n ∷ []))
          ∙ ap (λ (xs : List Node). take before.used before.nodes.now ++ xs) (sym cf);
      fill = omega arith;
      count = omega arith;
    }
