-- What reading escaped text does at one byte.
use Rattle.std.proofs.Common.{◌≡◌, ℕ, ◌+◌, ◌<◌, List, [], ◌∷◌, ◌++◌, length, get_or, drop, Some, Option, sym, refl, ap, ◌∙◌}
use Rattle.std.proofs.lemmas.List.{at_drop_more}
use Rattle.trials.specs.declared.escape.Escape.{Escape}
use Rattle.trials.specs.declared.escape.Escape.TheVariants.{Nothing}
use Rattle.trials.specs.declared.escape.Step.{Step}
use Rattle.trials.specs.declared.escape.Step.TheVariants.{On, Byte}
use Rattle.trials.specs.Escapes.{step_of, read_on}

pub read_more : (bytes : List ℕ) (e : Escape) (xs : List ℕ) (i : ℕ) (s : Option Step) → i < length xs → s ≡ step_of e (get_or xs i 0) → read_on bytes (Some (On e)) (drop i xs) ≡ read_on bytes s (drop (i + 1) xs)
read_more bytes e xs i s lt is = at_drop_more (read_on bytes (Some (On e))) xs i 0 lt ∙ ap (λ q. read_on bytes q (drop (i + 1) xs)) (sym is)

-- a byte that is made stands behind those before it
pub read_byte : (bytes : List ℕ) (x : ℕ) (rest : List ℕ) → read_on bytes (Some (Byte x)) rest ≡ read_on (bytes ++ x ∷ []) (Some (On Nothing)) rest
read_byte bytes x [] = refl
read_byte bytes x (b ∷ rest) = refl
