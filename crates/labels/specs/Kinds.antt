-- Orders, and the two kinds of label: what each means, its bytes, and which labels are the same.
use Rattle.std.specs.Prelude.{◌≡◌, ℕ, ◌-◌, ◌<◌, Bool, true, false, cond, ◌&&◌, List, [], ◌∷◌, ℤ, pos, negsuc, ◌+ℤ◌, ◌*ℤ◌, Some, None, codes, Ok, Err, Option, Result, ◌==◌, nat_lt, slice_index}
use Rattle.std.proofs.Common.{arith}
use Rattle.std.specs.Int.Signed.{mag}
use Rattle.std.specs.Str.{bytes_eq}
use Rattle.std.proofs.lemmas.Bool.{cond_both, ltb-true, ltb-false}
use Rattle.automata.specs.declared.Label.{Ghosts as LabelGhosts}
use Rattle.labels.specs.declared.Verb.{Verb}
use Rattle.labels.specs.declared.Order.{Order}
use Rattle.labels.specs.declared.Bare.{Bare}
use Rattle.labels.specs.declared.measure.Measured.{Measured}
use Rattle.labels.specs.declared.Kind.{Kind}
use Rattle.labels.specs.declared.Kind.TheVariants as kinds
use Rattle.labels.specs.Verbs.{byte_of, verb_of}

-- the byte of a number from -128 to 127, in two's complement
abbrev pub twos : ℤ → ℕ
twos (pos n) = n
twos (negsuc n) = 255 - n

-- the number from -128 to 127 that a byte stands for in two's complement
abbrev pub signed : ℕ → ℤ
signed b = cond (nat_lt b 128) (pos b) (negsuc (255 - b))

-- such a number lies from -128 to 127
pub signed_small : (b : ℕ) → mag (signed b) < 128
signed_small b = cond_both (nat_lt b 128) (pos b) (negsuc (255 - b)) (λ z. mag z < 128) (λ e. ltb-true b 128 e) (λ e. omega (arith, ltb-false b 128 e))

-- whether two whole numbers are equal
abbrev pub equal_int : ℤ → ℤ → Bool
equal_int (pos a) (pos b) = a == b
equal_int (pos a) (negsuc b) = false
equal_int (negsuc a) (pos b) = false
equal_int (negsuc a) (negsuc b) = a == b

-- whether two verbs are equal: each has a byte of its own
abbrev pub same_verb : Verb → Verb → Bool
same_verb v w = byte_of v == byte_of w

-- the three bytes of an order: its verb's, its picas' and its points'
abbrev pub order_bytes : Order → List ℕ
order_bytes o = byte_of o.verb ∷ twos o.picas ∷ twos o.points ∷ []

-- two bare labels are the same when their verbs are equal
abbrev pub alike_bare : Bare → Bare → Bool
alike_bare x y = same_verb x.verb y.verb

-- the bare label of a verb, if there is one
abbrev pub bare_of : Option Verb → Option Bare
bare_of (Some v) = Some (record { verb = v })
bare_of None = None

-- three bytes make a bare label when the first is a verb's and the others are zero
abbrev pub made_bare : List ℕ → Option Bare
made_bare bs = cond (slice_index bs 1 == 0 && slice_index bs 2 == 0) (bare_of (verb_of (slice_index bs 0))) None

-- the three bytes of a bare label
abbrev pub written_bare : Bare → List ℕ
written_bare x = byte_of x.verb ∷ 0 ∷ 0 ∷ []

-- what is meant by the bare kind of label
abbrev pub bare_labels : LabelGhosts Bare
bare_labels = record { kind = 1; alike = alike_bare; made = made_bare; written = written_bare }

-- the order that a bare label stands for
abbrev pub said_bare : Bare → Order
said_bare x = record { verb = x.verb; picas = pos 0; points = pos 0 }

-- the measure of a label in points, of which twelve make a pica
abbrev pub measure_of : Measured → ℤ
measure_of x = pos 12 *ℤ x.picas +ℤ x.points

-- two measured labels are the same when their verbs and their measures are equal
abbrev pub alike_measured : Measured → Measured → Bool
alike_measured x y = same_verb x.verb y.verb && equal_int (measure_of x) (measure_of y)

-- the measured label of a verb, if there is one, and of the bytes of its picas and points
abbrev pub measured_of : Option Verb → ℕ → ℕ → Option Measured
measured_of (Some v) a b = Some (record { verb = v; picas = signed a; points = signed b; narrow = signed_small a; low = signed_small b })
measured_of None a b = None

-- three bytes make a measured label when the first is a verb's
abbrev pub made_measured : List ℕ → Option Measured
made_measured bs = measured_of (verb_of (slice_index bs 0)) (slice_index bs 1) (slice_index bs 2)

-- the three bytes of a measured label
abbrev pub written_measured : Measured → List ℕ
written_measured x = byte_of x.verb ∷ twos x.picas ∷ twos x.points ∷ []

-- what is meant by the measured kind of label
abbrev pub measured_labels : LabelGhosts Measured
measured_labels = record { kind = 2; alike = alike_measured; made = made_measured; written = written_measured }

-- the order that a measured label stands for
abbrev pub said_measured : Measured → Order
said_measured x = record { verb = x.verb; picas = x.picas; points = x.points }

-- the number of a kind
abbrev pub kind_number : Kind → ℕ
kind_number kinds.Bare = 1
kind_number kinds.Measured = 2

-- the kind that a word numbers, by one digit, if it does
abbrev pub kind_named : List ℕ → Option Kind
kind_named w = cond (bytes_eq w (codes "1")) (Some kinds.Bare) (cond (bytes_eq w (codes "2")) (Some kinds.Measured) None)

-- the kind that a word numbers, or none
abbrev pub KindNamed : {E : Type 0} → List ℕ → Result Kind E → Type 0
KindNamed w (Ok k) = kind_named w ≡ Some k
KindNamed w (Err e) = kind_named w ≡ None

-- whether a label of the kind has a measure
abbrev pub has_measure : Kind → Bool
has_measure kinds.Bare = false
has_measure kinds.Measured = true
