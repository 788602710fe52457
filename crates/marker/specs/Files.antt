-- How a file tells a table from a script.
use Rattle.std.specs.Prelude.{ℕ, Bool, List, take, codes}
use Rattle.std.specs.Str.{bytes_eq}

-- whether the file begins with the letters MUS
abbrev pub table_head : List ℕ → Bool
table_head file = bytes_eq (take 3 file) (codes "MUS")
