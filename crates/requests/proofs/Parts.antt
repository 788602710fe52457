-- The loop over the parts of a word between its `+`, part by part.
use Rattle.std.proofs.Common.{◌≡◌, ℕ, ◌≤◌, Bool, false, eqb, List, [], ◌∷◌, ◌++◌, length, drop, Some, None, Option, Bor, sym, ap, ◌∙◌, arith, length-append}
use denote.Param.Members.{Mut}
use Rattle.std.specs.Fn.{CalledAt}
use Rattle.std.specs.Iterator.{Yields}
use Rattle.std.specs.Slice.Iter as slice
use Rattle.std.specs.declared.slice.Split.{Split}
use Rattle.std.proofs.lemmas.Iterator.{YieldsList}
use Rattle.std.proofs.lemmas.Iterator.Consumers.{YieldsList-at, YieldsList-turn, YieldsList-end}
use Rattle.std.proofs.lemmas.Iterator.Splits.{YieldsList-from_slice_split}
use Rattle.requests.specs.Words.{test_in, joined, tests_on}
use Rattle.requests.proofs.Steps.{tests_in, parts_of, part_more, part_all, tests_of_parts}

-- the parts that were read and those that are left make the atom of the word
abbrev pub Reads : ℕ → List (Bor (List ℕ)) → List ℕ → Type 0
Reads a xs w = tests_in (Some a) (drop (length xs) (parts_of w)) ≡ tests_on (Some 0) [] w

pub reads_none : (w : List ℕ) → Reads 0 [] w
reads_none w = sym (tests_of_parts w)

-- the loop began at the cut word v, has read the parts xs and asks for one more
module _ {F : Type 0} {g : Mut F (Bor ℕ × Unit {0}) Bool} (v s t u : Split ℕ F) {f : F} (w : List ℕ) (a : ℕ) (xs : List (Bor (List ℕ))) (r : Option (Bor (List ℕ))) (steps : slice.split_steps g t r u) (yields : Yields (slice.split_steps g) s xs t)
    (begins : s ≡ v) (rest : slice.split_rest v ≡ w) (done : slice.split_done v ≡ false) (callee : slice.split_callee v ≡ f)
    (tests : (x : ℕ) (b : Bool) (q : F) → CalledAt g f x b q → (q ≡ f) × (b ≡ eqb x 43)) (reads : Reads a xs w) where
  road : YieldsList (slice.split_steps g) (λ x. x.now) s (parts_of w)
  road = YieldsList-at begins (YieldsList-from_slice_split g (λ b. eqb b 43) w rest done callee tests)

  -- one part more makes no atom
  pub reads_wrong : (x : Bor (List ℕ)) → r ≡ Some x → None ≡ joined a (test_in x.now) → None ≡ tests_on (Some 0) [] w
  reads_wrong x is e = let turn = YieldsList-turn road xs t yields r u x is steps in sym (part_more a (parts_of w) (length xs) x.now None turn.0 turn.1 e) ∙ reads

  -- one part more makes the atom b
  pub reads_more : (x : Bor (List ℕ)) → r ≡ Some x → (b : ℕ) → Some b ≡ joined a (test_in x.now) → Reads b (xs ++ x ∷ []) w
  reads_more x is b e =
      let turn = YieldsList-turn road xs t yields r u x is steps in
      ap (λ n. tests_in (Some b) (drop n (parts_of w))) (length-append xs (x ∷ [])) ∙ sym (part_more a (parts_of w) (length xs) x.now (Some b) turn.0 turn.1 e) ∙ reads

  -- no part is left
  pub reads_all : r ≡ None → Some a ≡ tests_on (Some 0) [] w
  reads_all is =
      let over = YieldsList-end road xs t yields r u is steps in
      let h : length (parts_of w) ≤ length xs = omega (arith, over.1) in
      sym (part_all a (parts_of w) (length xs) h) ∙ reads
