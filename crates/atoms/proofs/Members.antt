-- Which atoms are members of a set that is made from others, for any number of digits.
use Rattle.std.proofs.Common.{◌≡◌, ℕ, zero, suc, ◌+◌, ◌-◌, ◌/◌, ◌%◌, ◌^◌, ◌<◌, ◌≤◌, Bool, true, false, cond, not, ◌&&◌, ◌||◌, eqb, ltb, sym, refl, ap, ◌∙◌, ⊎_elim, mod-lt, pow-suc, arith, lit<}
use lib.Bits.{bit_and, bit_or, and_shr, or_shr, and_mod, or_mod}
use lib.Count.{ones, count_trailing_zeros, under, ones_step}
use Rattle.std.proofs.lemmas.Nat.{pow_pos}
use Rattle.std.proofs.lemmas.Bool.{cases_lt, lt-ltb, le-ltb, eqb-true}
use Rattle.atoms.specs.Sets.{member, counted, Least}
use Rattle.atoms.proofs.Digits.{digit, digit_lt, digit_zero, digit_suc, digit_beyond, digit_not}

and_bit : (x y : ℕ) → x < 2 → y < 2 → eqb (bit_and x y) 1 ≡ (eqb x 1 && eqb y 1)
and_bit zero zero hx hy = refl
and_bit zero (suc zero) hx hy = refl
and_bit zero (suc (suc y)) hx hy = absurd (omega arith)
and_bit (suc zero) zero hx hy = refl
and_bit (suc zero) (suc zero) hx hy = refl
and_bit (suc zero) (suc (suc y)) hx hy = absurd (omega arith)
and_bit (suc (suc x)) y hx hy = absurd (omega arith)

or_bit : (x y : ℕ) → x < 2 → y < 2 → eqb (bit_or x y) 1 ≡ (eqb x 1 || eqb y 1)
or_bit zero zero hx hy = refl
or_bit zero (suc zero) hx hy = refl
or_bit zero (suc (suc y)) hx hy = absurd (omega arith)
or_bit (suc zero) zero hx hy = refl
or_bit (suc zero) (suc zero) hx hy = refl
or_bit (suc zero) (suc (suc y)) hx hy = absurd (omega arith)
or_bit (suc (suc x)) y hx hy = absurd (omega arith)

not_bit : (x : ℕ) → x < 2 → eqb (1 - x) 1 ≡ not (eqb x 1)
not_bit zero h = refl
not_bit (suc zero) h = refl
not_bit (suc (suc x)) h = absurd (omega arith)

count_bit : (x : ℕ) → x < 2 → cond (eqb x 1) 1 0 ≡ x
count_bit zero h = refl
count_bit (suc zero) h = refl
count_bit (suc (suc x)) h = absurd (omega arith)

abbrev one : ℕ → Bool
one d = eqb d 1

-- the members of both
pub member_and : (a b k : ℕ) → member (bit_and a b) k ≡ (member a k && member b k)
member_and a b k =
    ap one (ap (λ (n : ℕ). n % 2) (and_shr a b k) ∙ and_mod (a / 2 ^ k) (b / 2 ^ k) 1)
    ∙ and_bit (digit a k) (digit b k) (digit_lt a k) (digit_lt b k)

-- the members of either
pub member_or : (a b k : ℕ) → member (bit_or a b) k ≡ (member a k || member b k)
member_or a b k =
    ap one (ap (λ (n : ℕ). n % 2) (or_shr a b k) ∙ or_mod (a / 2 ^ k) (b / 2 ^ k) 1)
    ∙ or_bit (digit a k) (digit b k) (digit_lt a k) (digit_lt b k)

-- no member at or past w
pub member_beyond : (w s k : ℕ) → s < 2 ^ w → w ≤ k → member s k ≡ false
member_beyond w s k h le = ap one (digit_beyond w s k h le)

-- a member lies below w
pub member_below : (w s k : ℕ) → s < 2 ^ w → member s k ≡ true → k < w
member_below w s k h m =
    ⊎_elim (λ lt. lt) (λ le. let d = digit_beyond w s k h le in let o = eqb-true (digit s k) 1 m in absurd (omega arith)) (cases_lt k w)

-- the set of nothing
pub member_none : (k : ℕ) → member 0 k ≡ false
member_none k = member_beyond 0 0 k (lit< tt) (omega arith)

-- those below w that are no members
pub member_not : (w a k : ℕ) → a < 2 ^ w → member (2 ^ w - 1 - a) k ≡ (ltb k w && not (member a k))
member_not w a k h =
    ⊎_elim
    (λ lt. ap one (digit_not w a k h lt) ∙ not_bit (digit a k) (digit_lt a k) ∙ ap (λ (t : Bool). t && not (member a k)) (sym (lt-ltb k w lt)))
    (λ le. let p = pow_pos w in member_beyond w (2 ^ w - 1 - a) k (omega arith) le ∙ ap (λ (t : Bool). t && not (member a k)) (sym (le-ltb k w le)))
    (cases_lt k w)

and_true : (b : Bool) → (b && true) ≡ b
and_true true = refl
and_true false = refl

-- all below w
pub member_all : (w k : ℕ) → member (2 ^ w - 1) k ≡ ltb k w
member_all w k =
    let e : 2 ^ w - 1 ≡ 2 ^ w - 1 - 0 = omega arith in
    ap (λ (s : ℕ). member s k) e ∙ member_not w 0 k (pow_pos w) ∙ ap (λ (t : Bool). ltb k w && not t) (member_none k) ∙ and_true (ltb k w)

-- the least member is found by the zeros below it
step : (n d t : ℕ) → n % 2 ≡ d → (d ≡ 0 → Least (n / 2) t) → Least n (under d t)
step n zero t e ih = record {
  there = ap one (digit_suc n t) ∙ (ih refl).there;
  before = λ k. elim k as (λ j. j < suc t → member n j ≡ false) [ zero ↦ (λ h. ap one (digit_zero n ∙ e)) | suc j ↦ (λ h. ap one (digit_suc n j) ∙ (ih refl).before j (omega arith)) ];
}
step n (suc d) t e ih = record {
  there = let l : n % 2 < 2 = mod-lt n (lit< tt) in let o : n % 2 ≡ 1 = omega arith in ap one (digit_zero n ∙ o);
  before = λ k h. absurd (omega arith);
}

pub trailing_least : (w n : ℕ) → 0 < n → n < 2 ^ w → Least n (count_trailing_zeros w n)
unfolding count_trailing_zeros
trailing_least zero n p h = absurd (omega arith)
trailing_least (suc w) n p h =
    let e = pow-suc 2 w in
    step n (n % 2) (count_trailing_zeros w (n / 2)) refl (λ z. trailing_least w (n / 2) (omega arith) (omega (arith, e)))

-- the members are counted by the ones
counted_suc : (n w : ℕ) → counted n (suc w) ≡ n % 2 + counted (n / 2) w
unfolding counted
counted_suc n zero = ap (λ (x : ℕ). x + 0) (count_bit (digit n 0) (digit_lt n 0) ∙ digit_zero n)
counted_suc n (suc w) =
    let ih = counted_suc n w in
    let m : ◌≡◌ {A = ℕ} (cond (member n (suc w)) 1 0) (cond (member (n / 2) w) 1 0) = ap (λ (d : ℕ). cond (one d) 1 0) (digit_suc n w) in
    omega arith

pub ones_counted : (w n : ℕ) → n < 2 ^ w → ones n ≡ counted n w
unfolding ones counted
ones_counted zero n h = let z : n ≡ 0 = omega arith in ap ones z
ones_counted (suc w) n h =
    let e = pow-suc 2 w in
    ones_step n ∙ ap (λ (x : ℕ). n % 2 + x) (ones_counted w (n / 2) (omega (arith, e))) ∙ sym (counted_suc n w)
