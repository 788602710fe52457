-- Labels made of bytes, and bytes of labels.
use Rattle.std.specs.Prelude.{◌≡◌, ℕ, ◌<◌, true, false, ◌&&◌, List, [], ◌∷◌, ℤ, pos, Some, None, Option, MatchOption, ◌==◌, slice_index, refl}
use Rattle.std.proofs.Common.{sym, ap, subst, ◌∙◌, ⊎_elim, arith}
use Rattle.std.proofs.Math.Bridge.{le_prop}
use Rattle.std.specs.Int.Signed.{mag}
use Rattle.std.proofs.lemmas.Bool.{cases_Bool, cond-true, cond-false, eq-eqb, eqb-true, and_from, and_parts}
use Rattle.labels.specs.declared.Verb.{Verb}
use Rattle.labels.specs.declared.Order.{Order}
use Rattle.labels.specs.declared.Bare.{Bare}
use Rattle.labels.specs.declared.measure.Measured.{Measured}
use Rattle.labels.specs.Verbs.{byte_of, verb_of}
use Rattle.labels.specs.Kinds.{twos, signed, signed_small, order_bytes, same_verb, equal_int, bare_of, made_bare, written_bare, measure_of, alike_measured, measured_of, made_measured, written_measured}
use Rattle.labels.specs.VerbsLemmas.{verb_back, byte_back}
use Rattle.labels.specs.Numbers.{signed_twos, twos_signed, int_is_equal, int_equal}

-- a measured label from its parts
abbrev pub label : (v : Verb) (p q : ℤ) → mag p < 128 → mag q < 128 → Measured
label v p q a b = record { verb = v; picas = p; points = q; narrow = a; low = b }

-- measured labels with equal verbs and numbers are equal
pub equal_labels : (v w : Verb) (p r q s : ℤ) → v ≡ w → p ≡ r → q ≡ s → (a : mag p < 128) (c : mag r < 128) (b : mag q < 128) (d : mag s < 128) → label v p q a b ≡ label w r s c d
equal_labels v w p r q s e f g a c b d =
    subst (λ (w' : Verb). label v p q a b ≡ label w' r s c d) e
    (subst (λ (r' : ℤ). (c' : mag r' < 128) → label v p q a b ≡ label v r' s c' d) f
    (λ c'. subst (λ (s' : ℤ). (d' : mag s' < 128) → label v p q a b ≡ label v p s' c' d') g
    (λ d'. λ i. label v p q (le_prop a c' i) (le_prop b d' i)) d) c)

-- the bytes of a measured label make it again
pub measured_back : (x : Measured) → made_measured (written_measured x) ≡ Some x
measured_back x =
    ap (λ (o : Option Verb). measured_of o (twos x.picas) (twos x.points)) (verb_back x.verb)
    ∙ ap Some (equal_labels x.verb x.verb _ x.picas _ x.points refl (signed_twos x.picas x.narrow) (signed_twos x.points x.low) _ _ _ _)

-- the bytes of a bare label make it again
pub bare_back : (x : Bare) → made_bare (written_bare x) ≡ Some x
bare_back x = ap bare_of (verb_back x.verb)

-- the same label
pub alike_itself : (x : Measured) → alike_measured x x ≡ true
alike_itself x = and_from _ _ (eq-eqb (byte_of x.verb) (byte_of x.verb) refl) (int_equal (measure_of x) (measure_of x) refl)

pub alike_through : (x y z : Measured) → alike_measured x y ≡ true → alike_measured y z ≡ true → alike_measured x z ≡ true
alike_through x y z p q =
    let a = and_parts (same_verb x.verb y.verb) (equal_int (measure_of x) (measure_of y)) p in
    let b = and_parts (same_verb y.verb z.verb) (equal_int (measure_of y) (measure_of z)) q in
    and_from (same_verb x.verb z.verb) (equal_int (measure_of x) (measure_of z))
    (eq-eqb (byte_of x.verb) (byte_of z.verb) (eqb-true (byte_of x.verb) (byte_of y.verb) a.0 ∙ eqb-true (byte_of y.verb) (byte_of z.verb) b.0))
    (int_equal (measure_of x) (measure_of z) (int_is_equal (measure_of x) (measure_of y) a.1 ∙ int_is_equal (measure_of y) (measure_of z) b.1))

pub measured_same : (x : Measured) → MatchOption (made_measured (written_measured x)) ⊥ (λ y. alike_measured x y ≡ true)
measured_same x = subst (λ (o : Option Measured). MatchOption o ⊥ (λ y. alike_measured x y ≡ true)) (sym (measured_back x)) (alike_itself x)

-- an order makes a measured label with its verb and its numbers
pub order_measured : (o : Order) (a : mag o.picas < 128) (b : mag o.points < 128) → (m : Measured) × (made_measured (order_bytes o) ≡ Some m) × (m.verb ≡ o.verb) × (m.picas ≡ o.picas) × (m.points ≡ o.points)
order_measured o a b = (label o.verb o.picas o.points a b, measured_back (label o.verb o.picas o.points a b), refl, refl, refl)

-- an order with no measure makes a bare label with its verb
pub order_bare : (o : Order) → o.picas ≡ pos 0 → o.points ≡ pos 0 → (x : Bare) × (made_bare (order_bytes o) ≡ Some x) × (x.verb ≡ o.verb)
order_bare o p q =
    let x : Bare = record { verb = o.verb } in
    (x, (λ i. made_bare (byte_of o.verb ∷ twos (p i) ∷ twos (q i) ∷ [])) ∙ bare_back x, refl)

-- what bytes make a measured label, and which
shape : (o : Option Verb) (b c : ℕ) (m : Measured) → measured_of o b c ≡ Some m → (v : Verb) × (o ≡ Some v) × (label v (signed b) (signed c) (signed_small b) (signed_small c) ≡ m)
shape (Some v) b c m e = (v, refl, cc)
shape None b c m e = let z : ◌≡◌ {A = ℕ} 0 1 = cc in absurd (omega arith)

-- the bytes of a measured label are those that made it
pub measured_exact : (a b c : ℕ) (m : Measured) → b < 256 → c < 256 → made_measured (a ∷ b ∷ c ∷ []) ≡ Some m → written_measured m ≡ a ∷ b ∷ c ∷ []
measured_exact a b c m hb hc e =
    let s = shape (verb_of a) b c m e in
    ap written_measured (sym s.2) ∙ (λ i. byte_back a s.0 s.1 i ∷ twos_signed b hb i ∷ twos_signed c hc i ∷ [])

bare_shape : (o : Option Verb) (m : Bare) → bare_of o ≡ Some m → o ≡ Some m.verb
bare_shape (Some v) m e = let f : record { verb = v } ≡ m = cc in ap (λ (x : Bare). Some x.verb) f
bare_shape None m e = let z : ◌≡◌ {A = ℕ} 0 1 = cc in absurd (omega arith)

-- the bytes of a bare label are those that made it
pub bare_exact : (a b c : ℕ) (m : Bare) → made_bare (a ∷ b ∷ c ∷ []) ≡ Some m → written_bare m ≡ a ∷ b ∷ c ∷ []
bare_exact a b c m e =
    ⊎_elim
    (λ (t : (b == 0 && c == 0) ≡ true).
    let z = and_parts (b == 0) (c == 0) t in
    let f : bare_of (verb_of a) ≡ Some m = sym (cond-true (b == 0 && c == 0) (bare_of (verb_of a)) None t) ∙ e in
    λ i. byte_back a m.verb (bare_shape (verb_of a) m f) i ∷ sym (eqb-true b 0 z.0) i ∷ sym (eqb-true c 0 z.1) i ∷ [])
    (λ (t : (b == 0 && c == 0) ≡ false).
    let f : ◌≡◌ {A = Option Bare} None (Some m) = sym (cond-false (b == 0 && c == 0) (bare_of (verb_of a)) None t) ∙ e in
    let z : ◌≡◌ {A = ℕ} 0 1 = cc in absurd (omega arith))
    (cases_Bool (b == 0 && c == 0))

-- the label that casts of bytes make is the one that the bytes make
pub cast_made : (bs : List ℕ) (v : Verb) (p q : ℤ) → Some v ≡ verb_of (slice_index bs 0) → p ≡ signed (slice_index bs 1) → q ≡ signed (slice_index bs 2) → (a : mag p < 128) (b : mag q < 128) → Some (label v p q a b) ≡ made_measured bs
cast_made bs v p q e f g a b =
    ap Some (equal_labels v v p (signed (slice_index bs 1)) q (signed (slice_index bs 2)) refl f g a (signed_small (slice_index bs 1)) b (signed_small (slice_index bs 2)))
    ∙ ap (λ (o : Option Verb). measured_of o (slice_index bs 1) (slice_index bs 2)) e
