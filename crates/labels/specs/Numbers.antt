-- Numbers from -128 to 127 and their bytes.
use Rattle.std.specs.Prelude.{◌≡◌, ℕ, suc, ◌-◌, ◌^◌, ◌<◌, Bool, true, false, cond, ℤ, pos, negsuc, nat_lt, refl}
use Rattle.std.proofs.Common.{sym, ap, ◌∙◌, ⊎_elim, arith}
use Rattle.std.specs.Int.Signed.{mag}
use Rattle.std.specs.Int.{w8}
use mir.Val.{to_z, of_z, sel}
use Rattle.std.proofs.lemmas.Int.{to_z-of_z}
use Rattle.std.proofs.lemmas.Bool.{cases_lt, lt-ltb, le-ltb, eqb-true, eq-eqb}
use Rattle.labels.specs.Kinds.{twos, signed, equal_int}

-- what a cast of a byte to a signed number gives
pub signed_is : (b : ℕ) → to_z w8 b ≡ signed b
signed_is b =
    elim (nat_lt b 128) as (λ t. sel t (pos b) (negsuc (2 ^ 8 - suc b)) ≡ cond t (pos b) (negsuc (255 - b))) [ true ↦ refl | false ↦ ap negsuc (omega arith) ]

-- and what is left of it when it goes to its bits and back
pub signed_cast : (b : ℕ) (z : ℤ) → mag z < 128 → z ≡ to_z w8 b → to_z w8 (of_z w8 z) ≡ signed b
signed_cast b z h e = to_z-of_z w8 z (record { sfits = h }) ∙ e ∙ signed_is b

below : (b : ℕ) → b < 128 → signed b ≡ pos b
below b h = ap (λ (t : Bool). cond t (pos b) (negsuc (255 - b))) (lt-ltb b 128 h)

-- a number's byte stands for the number
pub signed_twos : (z : ℤ) → mag z < 128 → signed (twos z) ≡ z
signed_twos (pos n) h = below n h
signed_twos (negsuc n) h =
    ap (λ (t : Bool). cond t (pos (255 - n)) (negsuc (255 - (255 - n)))) (le-ltb (255 - n) 128 (omega arith)) ∙ ap negsuc (omega arith)

-- a byte is that of the number that it stands for
pub twos_signed : (b : ℕ) → b < 256 → twos (signed b) ≡ b
twos_signed b h =
    ⊎_elim
    (λ lt. ap (λ (t : Bool). twos (cond t (pos b) (negsuc (255 - b)))) (lt-ltb b 128 lt))
    (λ le. ap (λ (t : Bool). twos (cond t (pos b) (negsuc (255 - b)))) (le-ltb b 128 le) ∙ omega arith)
    (cases_lt b 128)

-- the test of equality is right
pub int_is_equal : (a b : ℤ) → equal_int a b ≡ true → a ≡ b
int_is_equal (pos a) (pos b) e = ap pos (eqb-true a b e)
int_is_equal (pos a) (negsuc b) e = let z : ◌≡◌ {A = ℕ} 0 1 = cc in absurd (omega arith)
int_is_equal (negsuc a) (pos b) e = let z : ◌≡◌ {A = ℕ} 0 1 = cc in absurd (omega arith)
int_is_equal (negsuc a) (negsuc b) e = ap negsuc (eqb-true a b e)

itself : (a : ℤ) → equal_int a a ≡ true
itself (pos a) = eq-eqb a a refl
itself (negsuc a) = eq-eqb a a refl

pub int_equal : (a b : ℤ) → a ≡ b → equal_int a b ≡ true
int_equal a b e = ap (λ (c : ℤ). equal_int a c) (sym e) ∙ itself a
