-- Runs of bytes of one class.
use Rattle.std.proofs.Common.{◌≡◌, ℕ, ◌+◌, ◌-◌, ◌<◌, ◌≤◌, Bool, List, length, take, drop, sym, ap, subst, arith, length-drop, length-take-le, get_or-take}
use Rattle.std.specs.List.{prefix_len}
use Rattle.std.proofs.lemmas.List.Sums.{prefix_len-le-length, prefix_len_passes}
use Rattle.std.proofs.lemmas.Bool.Decides.{nat_tests}
use Rattle.tokens.specs.Classes.{is_digit}
use Rattle.tokens.specs.Tokens.{Digits, run_at}

pub digits_run : (text : List ℕ) (p : ℕ) → Digits (run_at text p is_digit)
digits_run text p k h =
    let short = length-take-le _ (drop p text) (prefix_len-le-length is_digit (drop p text)) in
    let lt : k < prefix_len is_digit (drop p text) = omega arith in
    let same = get_or-take (prefix_len is_digit (drop p text)) (drop p text) k 0 lt in
    let good = prefix_len_passes is_digit (drop p text) k 0 lt in
    grind (arith, nat_tests)

pub run_within : (q : ℕ → Bool) (text : List ℕ) (p : ℕ) → p ≤ length text → p + prefix_len q (drop p text) ≤ length text
run_within q text p h = omega (arith, prefix_len-le-length q (drop p text), length-drop p text)

pub part_is : (q : ℕ → Bool) (text : List ℕ) (p e : ℕ) → e ≡ p + prefix_len q (drop p text) → take (e - p) (drop p text) ≡ run_at text p q
part_is q text p e h = let l : e - p ≡ prefix_len q (drop p text) = omega arith in ap (λ (n : ℕ). take n (drop p text)) l

pub digits_part : (text : List ℕ) (p e : ℕ) → e ≡ p + prefix_len is_digit (drop p text) → Digits (take (e - p) (drop p text))
digits_part text p e h = subst Digits (sym (part_is is_digit text p e h)) (digits_run text p)
