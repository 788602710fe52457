-- A token other than the end moves the position on and stays within the text, and a number is at most 127.
use Rattle.std.proofs.Common.{◌≡◌, ℕ, ◌+◌, ◌<◌, ◌≤◌, Bool, true, false, cond, leb, List, length, get_or, drop, Some, None, Ok, Err, Option, Result, sym, refl, ap, ◌∙◌, arith}
use Rattle.std.specs.Prelude.{IfOk}
use Rattle.std.specs.List.{prefix_len}
use Rattle.std.proofs.lemmas.List.Sums.{prefix_len-drop_yes}
use Rattle.std.proofs.lemmas.Bool.Decides.{nat_tests}
use Rattle.automata.specs.declared.Fault.{Fault}
use Rattle.tokens.specs.declared.Mark.{Mark as Sign}
use Rattle.words.specs.declared.Word.{Word as Known}
use Rattle.tokens.specs.Classes.{is_blank, is_letter, is_digit, mark_of}
use Rattle.words.specs.Words.{word_of}
use Rattle.tokens.specs.Tokens.{Lexeme, word, number, mark, finish, numbered, run_at, with_number, with_word, with_mark, token_in, token_from, next_token}
use Rattle.tokens.proofs.Runs.{run_within}

-- a token from a position on, and the position after it, in a text of length n
abbrev pub Steps : ℕ → ℕ → Lexeme → ℕ → Type 0
Steps n at (word p letters w) e = (at < e) × (e ≤ n)
Steps n at (number p v) e = (at < e) × (e ≤ n) × (v ≤ 127)
Steps n at (mark p m) e = (at < e) × (e ≤ n)
Steps n at (finish p) e = (at ≤ e) × (e ≤ n)

abbrev pub Within : ℕ → ℕ → Result (Lexeme × ℕ) Fault → Type 0
Within n at (Ok t) = Steps n at t.0 t.1
Within n at (Err f) = Unit {0}

word_with : (n at p e : ℕ) (letters : List ℕ) (o : Option Known) → at < e → e ≤ n → Within n at (with_word p e letters o)
word_with n at p e letters (Some w) h k = (h, k)
word_with n at p e letters None h k = tt

mark_with : (n at p : ℕ) (o : Option Sign) → at ≤ p → p < n → Within n at (with_mark p o)
mark_with n at p (Some m) h k = (omega arith, omega arith)
mark_with n at p None h k = tt

number_with : (n at p e : ℕ) (r : Result ℕ Fault) → at < e → e ≤ n → IfOk r (λ v. v ≤ 127) → Within n at (with_number p e r)
number_with n at p e (Ok v) h k s = (h, k, s)
number_with n at p e (Err f) h k s = tt

numbered_small : (p : ℕ) (ds : List ℕ) → IfOk (numbered p ds) (λ v. v ≤ 127)
numbered_small p ds = grind (arith, nat_tests)

-- the first byte of a run is in it
run_on : (q : ℕ → Bool) (text : List ℕ) (p : ℕ) → p < length text → q (get_or text p 0) ≡ true → p < p + prefix_len q (drop p text)
run_on q text p lt y = omega (arith, prefix_len-drop_yes q text p 0 lt y)

within_cond : (n at : ℕ) (b : Bool) (x y : Result (Lexeme × ℕ) Fault) → (b ≡ true → Within n at x) → (b ≡ false → Within n at y) → Within n at (cond b x y)
within_cond n at true x y f g = f refl
within_cond n at false x y f g = g refl

in_within : (text : List ℕ) (at p : ℕ) → at ≤ p → p < length text → Within (length text) at (token_in text p (get_or text p 0))
in_within text at p h lt =
    within_cond _ _ (is_letter (get_or text p 0)) _ _ (λ y. word_with _ _ _ _ _ (word_of (run_at text p is_letter)) (on is_letter y) (end is_letter))
    (λ _. within_cond _ _ (is_digit (get_or text p 0)) _ _ (λ y. number_with _ _ _ _ (numbered p (run_at text p is_digit)) (on is_digit y) (end is_digit) (numbered_small p (run_at text p is_digit)))
    (λ _. mark_with _ _ _ (mark_of (get_or text p 0)) h lt))
  where
    end : (q : ℕ → Bool) → p + prefix_len q (drop p text) ≤ length text
    end q = run_within q text p (omega arith)

    on : (q : ℕ → Bool) → q (get_or text p 0) ≡ true → at < p + prefix_len q (drop p text)
    on q y = let r = run_on q text p lt y in omega arith

at_within : (text : List ℕ) (at p : ℕ) → at ≤ p → p ≤ length text → Within (length text) at (token_from text p)
at_within text at p h k = within_cond _ _ (leb (length text) p) _ _ (λ _. (h, k)) (λ y. in_within text at p h (grind (arith, nat_tests)))

-- the next token ends within the text, after the position unless it is the end
pub next_within : (text : List ℕ) (at : ℕ) → at ≤ length text → Within (length text) at (next_token text at)
unfolding next_token
next_within text at h = at_within text at (at + prefix_len is_blank (drop at text)) (omega arith) (run_within is_blank text at h)

-- the token at the place where the blanks end comes next
pub next_from_place : (text : List ℕ) (at p : ℕ) (x : Result (Lexeme × ℕ) Fault) → p ≡ at + prefix_len is_blank (drop at text) → x ≡ token_from text p → next_token text at ≡ x
unfolding next_token
next_from_place text at p x e h = ap (token_from text) (sym e) ∙ sym h
