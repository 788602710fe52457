-- The tests of a word, cut at each `+`.
use Rattle.std.proofs.Common.{◌≡◌, ℕ, ◌+◌, ◌<◌, ◌≤◌, true, false, cond, eqb, List, [], ◌∷◌, ◌++◌, length, get_or, drop, Some, None, Option, sym, refl, ap, ◌∙◌, append-nil, append_assoc, arith}
use Rattle.std.proofs.lemmas.List.{at_drop_more, at_drop_all}
use Rattle.std.specs.List.{slice_split, onto_first}
use Rattle.std.proofs.lemmas.List.Splits.{length-slice_split}
use Rattle.requests.specs.Words.{test_in, joined, tests_on}

-- the atom of letters that were cut at each `+`, behind those of which the first argument is the atom
abbrev pub tests_in : Option ℕ → List (List ℕ) → Option ℕ
tests_in None parts = None
tests_in (Some a) [] = Some a
tests_in (Some a) (w ∷ parts) = tests_in (joined a (test_in w)) parts

-- the parts of a word between its `+`
abbrev pub parts_of : List ℕ → List (List ℕ)
parts_of w = slice_split (λ b. eqb b 43) w

-- the parts with more letters before the first
abbrev fronted : List ℕ → List (List ℕ) → List (List ℕ)
fronted w [] = w ∷ []
fronted w (part ∷ parts) = (w ++ part) ∷ parts

fronted_none : (parts : List (List ℕ)) → 0 < length parts → fronted [] parts ≡ parts
fronted_none [] h = absurd (omega arith)
fronted_none (part ∷ parts) h = refl

fronted_one : (w : List ℕ) (b : ℕ) (parts : List (List ℕ)) → 0 < length parts → fronted (w ++ b ∷ []) parts ≡ fronted w (onto_first b parts)
fronted_one w b [] h = absurd (omega arith)
fronted_one w b (part ∷ parts) h = ap (λ q. q ∷ parts) (append_assoc w (b ∷ []) part)

some_part : (w : List ℕ) → 0 < length (parts_of w)
some_part w = omega (arith, length-slice_split (λ b. eqb b 43) w)

none_read : (o : Option ℕ) → tests_in o [] ≡ o
none_read None = refl
none_read (Some a) = refl

-- cutting the word first gives the same atom as reading it letter by letter
tests_cut : (o : Option ℕ) (w rest : List ℕ) → tests_on o w rest ≡ tests_in o (fronted w (parts_of rest))
tests_cut None w rest = refl
tests_cut (Some a) w [] = ap (λ q. joined a (test_in q)) (sym (append-nil w)) ∙ sym (none_read (joined a (test_in (w ++ []))))
tests_cut (Some a) w (b ∷ rest) =
    elim (eqb b 43) as (λ v. cond v (tests_on (joined a (test_in w)) [] rest) (tests_on (Some a) (w ++ b ∷ []) rest) ≡ tests_in (Some a) (fronted w (cond v ([] ∷ parts_of rest) (onto_first b (parts_of rest))))) [
      | true ↦
          tests_cut (joined a (test_in w)) [] rest
          ∙ ap (tests_in (joined a (test_in w))) (fronted_none (parts_of rest) (some_part rest))
          ∙ ap (λ q. tests_in (joined a (test_in q)) (parts_of rest)) (sym (append-nil w))
      | false ↦ tests_cut (Some a) (w ++ b ∷ []) rest ∙ ap (tests_in (Some a)) (fronted_one w b (parts_of rest) (some_part rest))
    ]

pub tests_of_parts : (w : List ℕ) → tests_on (Some 0) [] w ≡ tests_in (Some 0) (parts_of w)
tests_of_parts w = tests_cut (Some 0) [] w ∙ ap (tests_in (Some 0)) (fronted_none (parts_of w) (some_part w))

-- what is left of the parts once one more is read
pub part_more : (a : ℕ) (parts : List (List ℕ)) (i : ℕ) (w : List ℕ) (o : Option ℕ) → i < length parts → w ≡ get_or parts i w → o ≡ joined a (test_in w) → tests_in (Some a) (drop i parts) ≡ tests_in o (drop (i + 1) parts)
part_more a parts i w o lt is e =
    at_drop_more (tests_in (Some a)) parts i w lt
    ∙ ap (λ q. tests_in (joined a (test_in q)) (drop (i + 1) parts)) (sym is)
    ∙ ap (λ q. tests_in q (drop (i + 1) parts)) (sym e)

pub part_all : (a : ℕ) (parts : List (List ℕ)) (i : ℕ) → length parts ≤ i → tests_in (Some a) (drop i parts) ≡ Some a
part_all a parts i le = at_drop_all (tests_in (Some a)) parts i le
