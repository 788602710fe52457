-- Two tests of numbers that agree below a bound, shown by one test that computes.
use Rattle.std.proofs.Common.{◌≡◌, ℕ, zero, suc, ◌^◌, ◌<◌, Bool, true, false, ◌&&◌, ltb, sym, refl, ap, ◌∙◌, ⊎_elim, arith, lit<}
use Rattle.std.proofs.lemmas.Bool.{cases_lt, cases_eq, lt-ltb, le-ltb, and_parts}
use Rattle.atoms.specs.Atoms.{atoms, holds_at}
use Rattle.atoms.specs.Sets.{member, set_of}
use Rattle.atoms.specs.declared.Test.{Test}
use Rattle.atoms.specs.declared.Test.TheVariants.{Widow, Orphan, Head, Figure, Note, Last}
use Rattle.atoms.proofs.Members.{member_beyond}

abbrev alike : Bool → Bool → Bool
alike true b = b
alike false true = false
alike false false = true

alike_equal : (a b : Bool) → alike a b ≡ true → a ≡ b
alike_equal true b e = sym e
alike_equal false true e = e
alike_equal false false e = refl

-- f and g agree at each number below n
abbrev pub agree : (ℕ → Bool) → (ℕ → Bool) → ℕ → Bool
agree f g zero = true
agree f g (suc n) = alike (f n) (g n) && agree f g n

pub agreed : (f g : ℕ → Bool) (n k : ℕ) → agree f g n ≡ true → k < n → f k ≡ g k
agreed f g zero k e h = absurd (omega arith)
agreed f g (suc n) k e h =
    let p = and_parts (alike (f n) (g n)) (agree f g n) e in
    ⊎_elim
    (λ (q : k ≡ n). ap f q ∙ alike_equal (f n) (g n) p.0 ∙ ap g (sym q))
    (λ (q : k ≡ n → ⊥). agreed f g n k p.1 (omega arith))
    (cases_eq k n)

-- a set below 2 ^ w that agrees with a test below w has the test's numbers below w as its members
pub member_test : (w s : ℕ) (test : ℕ → Bool) → s < 2 ^ w → agree (member s) test w ≡ true → (k : ℕ) → member s k ≡ (ltb k w && test k)
member_test w s test h e k =
    ⊎_elim
    (λ lt. agreed (member s) test w k e lt ∙ ap (λ (t : Bool). t && test k) (sym (lt-ltb k w lt)))
    (λ le. member_beyond w s k h le ∙ ap (λ (t : Bool). t && test k) (sym (le-ltb k w le)))
    (cases_lt k w)

-- the set of a test is a set of atoms
pub set_small : (t : Test) → set_of t < 2 ^ atoms
set_small Widow = lit< tt
set_small Orphan = lit< tt
set_small Head = lit< tt
set_small Figure = lit< tt
set_small Note = lit< tt
set_small Last = lit< tt

set_agrees : (t : Test) → agree (member (set_of t)) (holds_at t) atoms ≡ true
set_agrees Widow = refl
set_agrees Orphan = refl
set_agrees Head = refl
set_agrees Figure = refl
set_agrees Note = refl
set_agrees Last = refl

-- the members of a test's set are the atoms at which it holds
pub member_set : (t : Test) (k : ℕ) → member (set_of t) k ≡ (ltb k atoms && holds_at t k)
member_set t = member_test atoms (set_of t) (holds_at t) (set_small t) (set_agrees t)

-- the same of a number that is a test's set
pub member_set_is : (t : Test) (s : ℕ) → s ≡ set_of t → (k : ℕ) → member s k ≡ (ltb k atoms && holds_at t k)
member_set_is t s e k = ap (λ (n : ℕ). member n k) e ∙ member_set t k
