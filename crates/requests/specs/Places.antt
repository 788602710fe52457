-- Lines and columns of a place, from the bytes before it.
use Rattle.std.specs.Prelude.{ℕ, ◌+◌, cond, List, [], ◌∷◌, ◌==◌}

-- how many lines end in the bytes, and n more
abbrev pub breaks : ℕ → List ℕ → ℕ
breaks n [] = n
breaks n (b ∷ bs) = breaks (cond (b == 10) (n + 1) n) bs

-- how many bytes stand behind the last end of a line, and n more if no line ends
abbrev pub since : ℕ → List ℕ → ℕ
since n [] = n
since n (b ∷ bs) = since (cond (b == 10) 0 (n + 1)) bs
