-- A verb and its byte tell each other.
use Rattle.std.specs.Prelude.{◌≡◌, ℕ, Bool, true, false, cond, Some, None, Option, ◌==◌, nat_eq, refl}
use Rattle.std.proofs.Common.{sym, ap, ◌∙◌, ⊎_elim, arith}
use Rattle.std.proofs.lemmas.Bool.{cases_Bool, eqb-true, cond-false}
use Rattle.labels.specs.declared.Verb.{Verb}
use Rattle.labels.specs.declared.Verb.TheVariants.{Line, Page, Column, Float, Foot, Feather, Tight, Loose, Hyphen, Rule, Blank, Run}
use Rattle.labels.specs.Verbs.{byte_of, verb_of}
use Rattle.labels.specs.Kinds.{same_verb}

-- the byte of a verb makes the verb
pub verb_back : (v : Verb) → verb_of (byte_of v) ≡ Some v
verb_back Line = refl
verb_back Page = refl
verb_back Column = refl
verb_back Float = refl
verb_back Foot = refl
verb_back Feather = refl
verb_back Tight = refl
verb_back Loose = refl
verb_back Hyphen = refl
verb_back Rule = refl
verb_back Blank = refl
verb_back Run = refl

-- one line of the table
tried : (b n : ℕ) (w v : Verb) (rest : Option Verb) → byte_of w ≡ n → (rest ≡ Some v → byte_of v ≡ b) → cond (b == n) (Some w) rest ≡ Some v → byte_of v ≡ b
tried b n w v rest here there e =
    ⊎_elim
    (λ (t : nat_eq b n ≡ true). let f : Some w ≡ Some v = sym (ap (λ (x : Bool). cond x (Some w) rest) t) ∙ e in let s : w ≡ v = cc in let q = eqb-true b n t in ap byte_of (sym s) ∙ here ∙ sym q)
    (λ (t : nat_eq b n ≡ false). there (sym (cond-false (b == n) (Some w) rest t) ∙ e))
    (cases_Bool (b == n))

none : (b : ℕ) (v : Verb) → ◌≡◌ {A = Option Verb} None (Some v) → byte_of v ≡ b
none b v e = let z : ◌≡◌ {A = ℕ} 0 1 = cc in absurd (omega arith)

-- the byte that makes a verb is the verb's
pub byte_back : (b : ℕ) (v : Verb) → verb_of b ≡ Some v → byte_of v ≡ b
byte_back b v =
    tried b 1 Line v _ refl (tried b 2 Page v _ refl (tried b 3 Column v _ refl (tried b 4 Float v _ refl
    (tried b 5 Foot v _ refl (tried b 6 Feather v _ refl (tried b 7 Tight v _ refl (tried b 8 Loose v _ refl
    (tried b 9 Hyphen v _ refl (tried b 10 Rule v _ refl (tried b 11 Blank v _ refl (tried b 12 Run v _ refl (none b v))))))))))))

-- verbs with one byte are equal
pub verbs_same : (v w : Verb) → same_verb v w ≡ true → v ≡ w
verbs_same v w e =
    let f : Some v ≡ Some w = sym (verb_back v) ∙ ap verb_of (eqb-true (byte_of v) (byte_of w) e) ∙ verb_back w in cc
