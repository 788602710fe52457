-- What the words of a command line ask for, one word further.
use Rattle.std.proofs.Common.{◌≡◌, List, ◌∷◌, length, Some, Option, MatchOption, String, Bor, subst}
use Rattle.std.specs.declared.alloc.Global.{Global}
use Rattle.std.specs.List.{IsFirstAndRest}
use Rattle.std.proofs.lemmas.Option.{MatchOption-at_some}
use Rattle.labels.specs.declared.Kind.{Kind}
use Rattle.requests.specs.Requests.{Kinded}

pub kinded_as : (words : List (String Global)) (k : Option Kind) (r s : List (String Global)) → Kinded words k r → r ≡ s → Kinded words k s
kinded_as words k r s h e = let P : List (String Global) → Type 0 = λ x. Kinded words k x in subst P e h

-- the words after the first, from what taking it off answers
pub behind_first : {T : Type 0} (words : List T) (o : Option (Bor T × Bor (List T))) (x : Bor T × Bor (List T)) → o ≡ Some x → MatchOption o (length words ≡ 0) (λ p. IsFirstAndRest words p.0.now p.1.now) → words ≡ x.0.now ∷ x.1.now
behind_first words o x is h = (MatchOption-at_some (length words ≡ 0) (λ p. IsFirstAndRest words p.0.now p.1.now) x is h).0
