-- Rows with rowids that tell them apart.
use Rattle.std.specs.Prelude.{◌≡◌, ℤ, false, List, [], ◌∷◌, ⊤}
use Rattle.sqlite.specs.declared.types.Value.TheVariants.{Int}
use Rattle.sqlite.specs.Order.{Row}
use Rattle.sqlite.specs.Tree.{rowid}
use Rattle.sqlite.specs.Edit.{is_taken}

-- the row has a number as its rowid
abbrev pub HasId : Row → Type 0
HasId row = (n : ℤ) × (rowid row ≡ Int n)

-- no rowid comes twice
abbrev pub AreApart : List Row → Type 0
AreApart [] = ⊤
AreApart (row ∷ rows) = (is_taken rows row ≡ false) × AreApart rows
