-- The fields of a line, one by one.
use Rattle.std.proofs.Common.{◌≡◌, ℕ, List, [], ◌∷◌, map, length, get_or, refl, ap, arith, Bor}

-- fields as the code holds them
abbrev pub Fields : Type 0
Fields = List (Bor (List ℕ))

-- the field at a place
abbrev pub field : Fields → ℕ → List ℕ
field fs i = (get_or fs i (record { ref_ptr = (0, 0); now = [] })).now

pub named_1 : (fs : Fields) (name : List ℕ) → length fs ≡ 1 → field fs 0 ≡ name → map (λ x. x.now) fs ≡ name ∷ []
named_1 [] name e is = absurd (omega arith)
named_1 (x ∷ []) name e is = ap (λ w. w ∷ []) is
named_1 (x ∷ y ∷ fs) name e is = absurd (omega arith)

pub named_2 : (fs : Fields) (name : List ℕ) → length fs ≡ 2 → field fs 0 ≡ name → map (λ x. x.now) fs ≡ name ∷ field fs 1 ∷ []
named_2 [] name e is = absurd (omega arith)
named_2 (x ∷ fs) name e is = by is (named_1 fs (field fs 0) (omega arith) refl)
  where
    by : x.now ≡ name → map (λ x. x.now) fs ≡ field fs 0 ∷ [] → x.now ∷ map (λ x. x.now) fs ≡ name ∷ field fs 0 ∷ []
    by p q = λ i. p i ∷ q i

pub named_3 : (fs : Fields) (name : List ℕ) → length fs ≡ 3 → field fs 0 ≡ name → map (λ x. x.now) fs ≡ name ∷ field fs 1 ∷ field fs 2 ∷ []
named_3 [] name e is = absurd (omega arith)
named_3 (x ∷ fs) name e is = by is (named_2 fs (field fs 0) (omega arith) refl)
  where
    by : x.now ≡ name → map (λ x. x.now) fs ≡ field fs 0 ∷ field fs 1 ∷ [] → x.now ∷ map (λ x. x.now) fs ≡ name ∷ field fs 0 ∷ field fs 1 ∷ []
    by p q = λ i. p i ∷ q i

pub named_4 : (fs : Fields) (name : List ℕ) → length fs ≡ 4 → field fs 0 ≡ name → map (λ x. x.now) fs ≡ name ∷ field fs 1 ∷ field fs 2 ∷ field fs 3 ∷ []
named_4 [] name e is = absurd (omega arith)
named_4 (x ∷ fs) name e is = by is (named_3 fs (field fs 0) (omega arith) refl)
  where
    by : x.now ≡ name → map (λ x. x.now) fs ≡ field fs 0 ∷ field fs 1 ∷ field fs 2 ∷ [] → x.now ∷ map (λ x. x.now) fs ≡ name ∷ field fs 0 ∷ field fs 1 ∷ field fs 2 ∷ []
    by p q = λ i. p i ∷ q i
