-- A whole text.
use Rattle.std.specs.Prelude.{◌≡◌, ℕ, ◌-◌, ◌≤◌, cond, List, ◌++◌, length, take, replicate, Some, None, Ok, Err, Option, Result, nat_lt}
use Rattle.automata.specs.declared.Fault.{Fault}
use Rattle.automata.specs.declared.Fault.TheVariants.{ShortBuffer, LongText}
use Rattle.labels.specs.declared.Kind.{Kind}
use Rattle.script.specs.declared.node.Node.{Node}
use Rattle.script.specs.declared.node.Node.TheVariants.{Blank}
use Rattle.script.specs.Trees.{Tree, steps}
use Rattle.script.specs.Lists.{code, most_steps}
use Rattle.tokens.specs.Streams.{stream_at, expected_end}
use Rattle.conditions.specs.Outcomes.{Out}
use Rattle.reading.specs.Steps.{script_at}
use Rattle.reading.specs.Drafts.{node_records}

-- the most levels that are open at once
abbrev pub most_levels : ℕ
most_levels = 32

-- a tree whose text ends, or the fault behind it
abbrev pub end_on : Tree → Option Fault → Result Tree Fault
end_on t None = Ok t
end_on t (Some f) = Err f

-- a script and then the end of the text
abbrev pub whole_on : Out Tree → Result Tree Fault
whole_on (Ok x) = end_on x.0 (expected_end x.1)
whole_on (Err f) = Err f

-- the tree of a text, or the fault of the first token at which something is wrong
abbrev pub reading_of : Kind → List ℕ → Result Tree Fault
reading_of k text = whole_on (script_at k most_levels 0 (stream_at text 0))

-- the tree of a text stands at the front of the list
abbrev pub Whole : Result Tree Fault → List Node → Result ℕ Fault → Type 0
Whole o after (Ok used) = (t : Tree) × (o ≡ Ok t) × (take used after ≡ code t) × (used ≡ length (code t)) × (steps t ≤ most_steps) × (used ≤ length after)
Whole o after (Err f) = o ≡ Err f

-- the most bytes of a text
abbrev pub most_bytes : ℕ
most_bytes = 16384

-- a short list comes first, then a long text, then what the text says
abbrev pub outcome_of : Kind → List ℕ → List Node → Result Tree Fault
outcome_of k text nodes = cond (nat_lt (length nodes) node_records) (Err ShortBuffer) (cond (nat_lt most_bytes (length text)) (Err LongText) (reading_of k text))

-- the list after a reading: the nodes of the tree, and the rest blank
abbrev pub filled_with : Tree → List Node → List Node
filled_with t before = code t ++ replicate (length before - length (code t)) Blank

-- the list after a refusal: as before where the lengths are refused and the text was not read, else all blank
abbrev pub after_refusal : List ℕ → List Node → List Node
after_refusal text before = cond (nat_lt (length before) node_records) before (cond (nat_lt most_bytes (length text)) before (replicate (length before) Blank))

-- what a reading answers, and what it leaves in the list
abbrev pub Read : {U : Type 0} → Kind → List ℕ → List Node → List Node → Result U Fault → Type 0
Read k text before after (Ok u) = (t : Tree) × (outcome_of k text before ≡ Ok t) × (after ≡ filled_with t before) × (steps t ≤ most_steps)
Read k text before after (Err f) = (outcome_of k text before ≡ Err f) × (after ≡ after_refusal text before)
