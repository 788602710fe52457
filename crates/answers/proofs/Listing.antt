-- The node list that a reading leaves, and the machine over it.
use Rattle.std.proofs.Common.{◌≡◌, ℕ, ◌-◌, cond, ltb, List, ◌++◌, length, take, drop, replicate, Err, Result, sym, ap, ◌∙◌, subst}
use Rattle.std.proofs.Math.Seq.{take-append_seam}
use Rattle.automata.specs.declared.Fault.{Fault}
use Rattle.automata.specs.declared.Fault.TheVariants.{ShortBuffer}
use Rattle.automata.specs.declared.Move.{Move}
use Rattle.automata.specs.declared.Label.{Ghosts as LabelGhosts}
use Rattle.labels.specs.declared.Kind.{Kind}
use Rattle.script.specs.declared.node.Node.{Node}
use Rattle.script.specs.declared.node.Node.TheVariants.{Blank}
use Rattle.script.specs.Trees.{Tree}
use Rattle.script.specs.Lists.{code}
use Rattle.script.specs.Machines.{MachineOf}
use Rattle.reading.specs.Drafts.{node_records}
use Rattle.reading.specs.Readings.{outcome_of, filled_with}
use Rattle.answers.specs.declared.Cause.{Cause}
use Rattle.answers.specs.declared.Cause.TheVariants.{Refused}
use Rattle.answers.specs.Told.{text_as, list_of, Told}

-- a list of the fixed length is not refused
pub text_is : (k : Kind) (text : List ℕ) (ns : List Node) (o : Result Tree Fault) → length ns ≡ node_records → outcome_of k text ns ≡ o → text_as k text ≡ o
text_is k text ns o e is = sym (ap (λ (n : ℕ). cond (ltb n node_records) (Err ShortBuffer) (text_as k text)) e) ∙ is

pub is_list : (t : Tree) (before : List Node) → length before ≡ node_records → filled_with t before ≡ list_of t
unfolding list_of
is_list t before e = ap (λ k. code t ++ replicate (k - length (code t)) Blank) e

pub machine_of_list : {L : Type 0} (l : LabelGhosts L) (t : Tree) (before after : List Node) (size : ℕ) (moves : ℕ → ℕ → Move L) → length before ≡ node_records
    → after ≡ filled_with t before → MachineOf l after size moves → MachineOf l (list_of t) size moves
machine_of_list l t before after size moves e filled m = subst (λ ns. MachineOf l ns size moves) (filled ∙ is_list t before e) m

-- a list of the length of the list before, written over all of it
pub written : (len : ℕ) (after before : List Node) → length after ≡ len → take len (after ++ drop (length after) before) ≡ after
written len after before e = ap (λ n. take n (after ++ drop (length after) before)) (sym e) ∙ take-append_seam after (drop (length after) before)

module _ {L S : Type 0} (l : LabelGhosts L) (k : Kind) (text : List ℕ) where
  -- a refusal is the reading's
  pub refused : (answers : S → ℕ → (ℕ → ℕ → Move L) → Type 0) (r : Result S Cause) (f : Fault) → r ≡ Err (Refused f) → text_as k text ≡ Err f → Told l k text answers r
  refused answers r f e h = subst (Told l k text answers) (sym e) h
