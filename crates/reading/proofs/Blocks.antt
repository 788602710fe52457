-- Blocks, steps and scripts token by token: what each way through their code comes to.
use Rattle.std.proofs.Common.{◌≡◌, ℕ, zero, suc, ◌+◌, ◌<◌, Bool, true, false, cond, Ok, Err, sym, refl, ap, ◌∙◌, add-one, arith}
use Rattle.std.proofs.lemmas.Bool.{lt-ltb}
use Rattle.automata.specs.declared.Fault.{Fault}
use Rattle.automata.specs.declared.Fault.TheVariants.{TooDeep, TooManySteps}
use Rattle.labels.specs.declared.Kind.{Kind}
use Rattle.script.specs.declared.node.Node.TheVariants.{Sequence}
use Rattle.script.specs.Trees.{Tree, joined, branched, guarded, steps}
use Rattle.script.specs.Lists.{most_steps}
use Rattle.tokens.specs.declared.Mark.TheVariants.{OpenBrace, CloseBrace, Semicolon}
use Rattle.words.specs.declared.Word.TheVariants.{Test, Verb, If, Else, While, Skip, Stop, By, P}
use Rattle.tokens.specs.Streams.{Stream, end, bad, word, number, mark, left, begins, past, begins_else, past_else, expected}
use Rattle.reading.specs.declared.First.{First}
use Rattle.reading.specs.declared.parser.Parser.{Parser}
use Rattle.conditions.specs.Outcomes.{Out, bind, chain}
use Rattle.reading.specs.Firsts.{first_of}
use Rattle.reading.specs.Steps.{if_of, step_on, step_at, next_step, script_at, close_block, block_at}
use Rattle.reading.specs.Stores.{draft, Stored, Pushed}
use Rattle.conditions.proofs.Conds.{going, without, turn, fall, done}
use Rattle.reading.proofs.Stores.{stored_two}
use Rattle.reading.proofs.StepEats.{next_eats, step_eats}
use Rattle.reading.proofs.Growth.{Grown}

module _ (k : Kind) (d n : ℕ) (s : Stream) where
  pub block_fails : (f : Fault) → expected OpenBrace s ≡ Err f → block_at k d n s ≡ Err f
  unfolding block_at
  block_fails f e = by d
    where
      by : (v : ℕ) → block_at k v n s ≡ Err f
      by zero = without (expected OpenBrace s) _ f e
      by (suc v) = without (expected OpenBrace s) _ f e

  pub block_deep : (p : ℕ) (q : Stream) (f : Fault) → expected OpenBrace s ≡ Ok (p, q) → (d ≡ 0) × (f ≡ TooDeep p) → block_at k d n s ≡ Err f
  unfolding block_at
  block_deep p q f e w = ap (λ (v : ℕ). block_at k v n s) w.0 ∙ going (expected OpenBrace s) _ p q e ∙ ap Err (sym w.1)

  -- a block that opens
  module _ (p : ℕ) (q : Stream) (b : ℕ) (e : expected OpenBrace s ≡ Ok (p, q)) (z : d ≡ b + 1) where
    block_in : block_at k d n s ≡ bind (script_at k b n q) close_block
    unfolding block_at
    block_in = ap (λ (v : ℕ). block_at k v n s) (z ∙ add-one b) ∙ going (expected OpenBrace s) _ p q e

    pub block_script_fails : (f : Fault) → script_at k b n q ≡ Err f → block_at k d n s ≡ Err f
    block_script_fails f h = block_in ∙ without (script_at k b n q) close_block f h

    pub block_close_fails : (t : Tree) (r : Stream) (f : Fault) → script_at k b n q ≡ Ok (t, r) → expected CloseBrace r ≡ Err f → block_at k d n s ≡ Err f
    block_close_fails t r f h g = block_in ∙ going (script_at k b n q) close_block t r h ∙ without (expected CloseBrace r) _ f g

    pub block_all : (t : Tree) (r : Stream) (p' : ℕ) (r' : Stream) → script_at k b n q ≡ Ok (t, r) → expected CloseBrace r ≡ Ok (p', r') → block_at k d n s ≡ Ok (t, r')
    block_all t r p' r' h g = block_in ∙ going (script_at k b n q) close_block t r h ∙ going (expected CloseBrace r) _ p' r' g

  -- a step that is counted
  pub step_in : (p : ℕ) (f : First) (q : Stream) → first_of s ≡ Ok ((p, f), q) → n < most_steps → step_at k d n s ≡ step_on k d (block_at k d) (n + 1) f q
  step_in p f q e lt =
      going (first_of s) _ (p, f) q e ∙ ap (λ (b : Bool). cond b (step_on k d (block_at k d) (n + 1) f q) (Err (TooManySteps p))) (lt-ltb n most_steps lt)

pub past_else_same : (s : Stream) → begins_else s ≡ false → past_else s ≡ s
past_else_same (end p) h = refl
past_else_same (bad f) h = refl
past_else_same (word p (Test t) s) h = refl
past_else_same (word p (Verb v) s) h = refl
past_else_same (word p If s) h = refl
past_else_same (word p Else s) h = absurd (let z : ◌≡◌ {A = ℕ} 0 1 = cc in omega arith)
past_else_same (word p While s) h = refl
past_else_same (word p Skip s) h = refl
past_else_same (word p Stop s) h = refl
past_else_same (word p By s) h = refl
past_else_same (word p P s) h = refl
past_else_same (number p v s) h = refl
past_else_same (mark p n s) h = refl

module _ (block : ℕ → Stream → Out Tree) (n x : ℕ) (s : Stream) (t : Tree) (r a : Stream) (first : block n s ≡ Ok (t, r)) (rest : a ≡ past_else r) where
  abbrev after_if : Bool → Out Tree
  after_if b = cond b (bind (block (n + steps t) (past_else r)) (λ u q. Ok (branched x t u, q))) (Ok (guarded x t, r))

  pub if_alone : false ≡ begins_else r → if_of block n x s ≡ Ok (guarded x t, a)
  if_alone b = going (block n s) _ t r first ∙ ap after_if (sym b) ∙ ap (λ (v : Stream). Ok (guarded x t, v)) (sym (rest ∙ past_else_same r (sym b)))

  pub if_else : true ≡ begins_else r → (m : ℕ) → m ≡ n + steps t → (u : Tree) (q : Stream) → block m a ≡ Ok (u, q) → if_of block n x s ≡ Ok (branched x t u, q)
  if_else b m e u q h =
      going (block n s) _ t r first ∙ ap after_if (sym b)
      ∙ going (block (n + steps t) (past_else r)) (λ u q. Ok (branched x t u, q)) u q ((λ i. block (sym e i) (sym rest i)) ∙ h)

-- one step more, or none
module _ (d : ℕ) (before now : Parser) (g : Grown d before now) (a : Stream) (rest : a ≡ past Semicolon (left now.reader)) where
  abbrev part : Tree → Stream → Out Tree
  part = next_step (step_at before.kind d) before.steps

  -- the next step, where the steps of the tree are counted
  next_is : (o : Out Tree) → step_at now.kind d now.steps a ≡ o → part g.tree a ≡ bind o (λ u r. Ok (joined g.tree u, r))
  next_is o e =
      let c = g.stored.count in
      let n : now.steps ≡ before.steps + steps g.tree = omega arith in
      ap (λ (v : Out Tree). bind v (λ u r. Ok (joined g.tree u, r))) ((λ i. step_at (sym g.kind i) d (sym n i) a) ∙ e)

  pub grown_err : true ≡ begins Semicolon (left now.reader) → (f : Fault) → step_at now.kind d now.steps a ≡ Err f
      → script_at before.kind d before.steps (left before.reader) ≡ Err f
  grown_err b f e = g.same ∙ fall Semicolon part (next_eats (step_at before.kind d) (step_eats before.kind d) before.steps) g.tree (left now.reader) a b rest f (next_is (Err f) e)

  pub grown_all : false ≡ begins Semicolon (left now.reader) → script_at before.kind d before.steps (left before.reader) ≡ Ok (g.tree, a)
  grown_all b = g.same ∙ done Semicolon part (next_eats (step_at before.kind d) (step_eats before.kind d) before.steps) g.tree (left now.reader) a b rest

  pub grown_more : true ≡ begins Semicolon (left now.reader) → (mid after : Parser) (u : Tree) → step_at now.kind d now.steps a ≡ Ok (u, left mid.reader)
      → mid.kind ≡ now.kind → Stored 0 (draft now) (draft mid) u → Pushed mid Sequence after → Grown d before after
  grown_more b mid after u e k st p = record {
    tree = joined g.tree u;
    stored = stored_two 0 joined Sequence g.tree u refl (omega arith) (draft before) (draft now) mid after g.stored st p;
    kind = p.kind ∙ k ∙ g.kind;
    same =
        g.same
        ∙ turn Semicolon part (next_eats (step_at before.kind d) (step_eats before.kind d) before.steps) g.tree (left now.reader) a b rest (joined g.tree u) (left mid.reader) (next_is (Ok (u, left mid.reader)) e)
        ∙ (λ i. chain Semicolon part (joined g.tree u) (left (sym p.reader i)));
  }
