-- Places in lists, as texts.
use Rattle.std.specs.Prelude.{ℕ, List, ◌++◌, codes, decimal}

-- the item of a list, counted from 0 on: `receivers[1]`
abbrev pub at_item : List ℕ → ℕ → List ℕ
at_item place number = place ++ (codes "[" ++ (decimal number ++ codes "]"))
