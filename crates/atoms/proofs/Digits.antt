-- The binary digits of a number, for any number of digits.
use Rattle.std.proofs.Common.{◌≡◌, ℕ, zero, suc, ◌-◌, ◌/◌, ◌%◌, ◌^◌, ◌<◌, ◌≤◌, sym, ap, ◌∙◌, mod-lt, pow-suc, div-one, one-add, arith, lit<, pow_mono}
use native.Mathlib.Nat.{div-eq_of_lt}
use Rattle.std.proofs.lemmas.Nat.{pow_pos, shr-shr}

-- the digit of weight 2 ^ k
abbrev pub digit : ℕ → ℕ → ℕ
digit s k = s / 2 ^ k % 2

pub digit_lt : (s k : ℕ) → digit s k < 2
digit_lt s k = mod-lt (s / 2 ^ k) (lit< tt)

-- the lowest digit, and those above it
pub digit_zero : (n : ℕ) → digit n 0 ≡ n % 2
digit_zero n = ap (λ (m : ℕ). m % 2) (div-one n)

pub digit_suc : (n k : ℕ) → digit n (suc k) ≡ digit (n / 2) k
digit_suc n k = ap (λ (m : ℕ). m % 2) (sym (shr-shr n 1 k ∙ ap (λ (e : ℕ). n / 2 ^ e) (one-add k)))

-- past the digits of a number there is nothing
pub digit_beyond : (w s k : ℕ) → s < 2 ^ w → w ≤ k → digit s k ≡ 0
digit_beyond w s k h le = let p = pow_mono le in let z : s / 2 ^ k ≡ 0 = div-eq_of_lt (omega arith) in ap (λ (m : ℕ). m % 2) z

-- the complement in w digits
pub digit_not : (w a k : ℕ) → a < 2 ^ w → k < w → digit (2 ^ w - 1 - a) k ≡ 1 - digit a k
digit_not zero a k h lt = absurd (omega arith)
digit_not (suc w) a zero h lt =
    let e = pow-suc 2 w in
    let p = pow_pos w in
    let g : (2 ^ suc w - 1 - a) % 2 ≡ 1 - a % 2 = omega (arith, e, p) in
    digit_zero _ ∙ g ∙ ap (λ (m : ℕ). 1 - m) (sym (digit_zero a))
digit_not (suc w) a (suc k) h lt =
    let e = pow-suc 2 w in
    let p = pow_pos w in
    let half : (2 ^ suc w - 1 - a) / 2 ≡ 2 ^ w - 1 - a / 2 = omega (arith, e, p) in
    let below : a / 2 < 2 ^ w = omega (arith, e, p) in
    digit_suc _ k ∙ ap (λ (m : ℕ). digit m k) half ∙ digit_not w (a / 2) k below (omega arith)
    ∙ ap (λ (m : ℕ). 1 - m) (sym (digit_suc a k))
