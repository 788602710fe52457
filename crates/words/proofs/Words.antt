-- Six and seven letters, each known, make up the whole word.
use Rattle.std.proofs.Common.{◌≡◌, ℕ, ◌<◌, ◌≤◌, List, [], ◌∷◌, length, slice_index_or, arith}

pub six_letters : (w : List ℕ) (a b c d e f : ℕ) → 6 ≤ length w → length w < 7
    → slice_index_or w 0 0 ≡ a → slice_index_or w 1 0 ≡ b → slice_index_or w 2 0 ≡ c → slice_index_or w 3 0 ≡ d → slice_index_or w 4 0 ≡ e → slice_index_or w 5 0 ≡ f
    → w ≡ a ∷ b ∷ c ∷ d ∷ e ∷ f ∷ []
six_letters [] a b c d e f m n p q r s t u = absurd (omega arith)
six_letters (g ∷ []) a b c d e f m n p q r s t u = absurd (omega arith)
six_letters (g ∷ h ∷ []) a b c d e f m n p q r s t u = absurd (omega arith)
six_letters (g ∷ h ∷ i ∷ []) a b c d e f m n p q r s t u = absurd (omega arith)
six_letters (g ∷ h ∷ i ∷ j ∷ []) a b c d e f m n p q r s t u = absurd (omega arith)
six_letters (g ∷ h ∷ i ∷ j ∷ k ∷ []) a b c d e f m n p q r s t u = absurd (omega arith)
six_letters (g ∷ h ∷ i ∷ j ∷ k ∷ l ∷ []) a b c d e f m n p q r s t u = cc
six_letters (g ∷ h ∷ i ∷ j ∷ k ∷ l ∷ x ∷ w) a b c d e f m n p q r s t u = absurd (omega arith)

pub seven_letters : (w : List ℕ) (a b c d e f g : ℕ) → 7 ≤ length w → length w < 8
    → slice_index_or w 0 0 ≡ a → slice_index_or w 1 0 ≡ b → slice_index_or w 2 0 ≡ c → slice_index_or w 3 0 ≡ d → slice_index_or w 4 0 ≡ e → slice_index_or w 5 0 ≡ f → slice_index_or w 6 0 ≡ g
    → w ≡ a ∷ b ∷ c ∷ d ∷ e ∷ f ∷ g ∷ []
seven_letters [] a b c d e f g m n p q r s t u v = absurd (omega arith)
seven_letters (h ∷ w) a b c d e f g m n p q r s t u v =
    let k = six_letters w b c d e f g (omega arith) (omega arith) q r s t u v in cc
