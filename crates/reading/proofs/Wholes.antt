-- A whole text: its script, and then its end.
use Rattle.std.proofs.Common.{◌≡◌, ℕ, List, take, Some, None, Ok, Err, sym, ap, ◌∙◌}
use Rattle.automata.specs.declared.Fault.{Fault}
use Rattle.labels.specs.declared.Kind.{Kind}
use Rattle.script.specs.declared.node.Node.{Node}
use Rattle.script.specs.Trees.{Tree}
use Rattle.tokens.specs.Streams.{Stream, stream_at, expected_end}
use Rattle.conditions.specs.Outcomes.{Out}
use Rattle.reading.specs.Steps.{script_at}
use Rattle.reading.specs.Readings.{most_levels, end_on, whole_on, reading_of}

-- the front of a list that is the same
pub taken : (n : ℕ) (x y z : List Node) → x ≡ y → take n y ≡ z → take n x ≡ z
taken n x y z e h = ap (take n) e ∙ h

module _ (k : Kind) (text x : List ℕ) (at : ℕ) (z : at ≡ 0) (same : x ≡ text) where
  reads : (o : Out Tree) → script_at k most_levels 0 (stream_at x at) ≡ o → reading_of k text ≡ whole_on o
  reads o e = ap whole_on ((λ i. script_at k most_levels 0 (stream_at (sym same i) (sym z i))) ∙ e)

  pub script_fails : (f : Fault) → script_at k most_levels 0 (stream_at x at) ≡ Err f → reading_of k text ≡ Err f
  script_fails f e = reads (Err f) e

  pub end_fails : (t : Tree) (s : Stream) (f : Fault) → script_at k most_levels 0 (stream_at x at) ≡ Ok (t, s) → expected_end s ≡ Some f → reading_of k text ≡ Err f
  end_fails t s f e h = reads (Ok (t, s)) e ∙ ap (end_on t) h

  pub all_read : (t : Tree) (s : Stream) → script_at k most_levels 0 (stream_at x at) ≡ Ok (t, s) → expected_end s ≡ None → reading_of k text ≡ Ok t
  all_read t s e h = reads (Ok (t, s)) e ∙ ap (end_on t) h
