-- What fields write, and outcomes of questions.
use Rattle.std.proofs.Common.{◌≡◌, ℕ, ◌<◌, List, [], ◌∷◌, ◌++◌, map, Bor, sym}
use Rattle.std.proofs.lemmas.List.{map-append}
use Rattle.std.specs.Str.Parse.{IsNumeral, without_leading_plus, digits_value}
use Rattle.trials.specs.Fields.{Writes, AllWritten}

-- a field that is read as a number writes it
pub parsed : (field : List ℕ) (n top : ℕ) → (IsNumeral 10 (without_leading_plus field) × (digits_value 10 (without_leading_plus field) < top)) × (n ≡ digits_value 10 (without_leading_plus field)) → Writes n field
parsed field n top h = (h.0.0, sym h.1)

-- one number and one field more
pub written_more : (ns : List ℕ) (fields : List (List ℕ)) (n : ℕ) (f : List ℕ) → AllWritten ns fields → Writes n f → AllWritten (ns ++ n ∷ []) (fields ++ f ∷ [])
written_more [] [] n f all w = (w, tt)
written_more [] (g ∷ fields) n f all w = absurd all
written_more (m ∷ ns) [] n f all w = absurd all
written_more (m ∷ ns) (g ∷ fields) n f all w = (all.0, written_more ns fields n f all.1 w)

-- the next item of a list writes the next number
pub written_next : (ns grown : List ℕ) (xs : List (Bor (List ℕ))) (x : Bor (List ℕ)) (n : ℕ) → AllWritten ns (map (λ x. x.now) xs) → Writes n x.now → grown ≡ ns ++ n ∷ [] → AllWritten grown (map (λ x. x.now) (xs ++ x ∷ []))
written_next ns grown xs x n all w e =
    rw (e, map-append (λ (x : Bor (List ℕ)). x.now) xs (x ∷ [])) (written_more ns (map (λ x. x.now) xs) n x.now all w)
