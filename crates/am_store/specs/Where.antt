-- Which rows a statement finds, and what it shows of them.
use Rattle.std.specs.Prelude.{ℕ, Bool, List, [], ◌∷◌}
use Rattle.std.specs.List.{list_all}
use Rattle.sqlite.specs.Collation.TheVariants.{Binary}
use Rattle.sqlite_sql.specs.declared.ops.BinaryOp.TheVariants.{Compare}
use Rattle.sqlite_sql.specs.declared.ops.CompareOp.TheVariants.{Eq}
use Rattle.sqlite.specs.Order.{Row}
use Rattle.sqlite.specs.Term.{Term, col, holds, op2}

-- a column is a parameter
abbrev pub is_param : ℕ → ℕ → Term
is_param at place = op2 (Compare Eq Binary) (col 1 at) (col 0 place)

-- the tenant is the first parameter
abbrev pub of_tenant : List Term
of_tenant = is_param 1 0 ∷ []

-- and the identifier is the second
abbrev pub of_silence : List Term
of_silence = is_param 1 0 ∷ is_param 2 1 ∷ []

-- the row passes each term of WHERE
abbrev pub hit : List Term → Row → Row → Bool
hit terms params row = list_all (holds (params ∷ row ∷ [])) terms

-- the rowid and the columns of a configuration, and of a silence
abbrev pub columns7 : List Term
columns7 = col 1 0 ∷ col 1 1 ∷ col 1 2 ∷ col 1 3 ∷ col 1 4 ∷ col 1 5 ∷ col 1 6 ∷ []

abbrev pub columns13 : List Term
columns13 =
    col 1 0 ∷ col 1 1 ∷ col 1 2 ∷ col 1 3 ∷ col 1 4 ∷ col 1 5 ∷ col 1 6
    ∷ col 1 7 ∷ col 1 8 ∷ col 1 9 ∷ col 1 10 ∷ col 1 11 ∷ col 1 12 ∷ []

-- the columns of their stamps
abbrev pub config_stamp : List Term
config_stamp = col 1 3 ∷ col 1 4 ∷ col 1 5 ∷ col 1 6 ∷ []

abbrev pub silence_stamp : List Term
silence_stamp = col 1 9 ∷ col 1 10 ∷ col 1 11 ∷ col 1 12 ∷ []

-- the rowid and the number of a version
abbrev pub columns2 : List Term
columns2 = col 1 0 ∷ col 1 1 ∷ []

-- the tenant
abbrev pub columns1 : List Term
columns1 = col 1 1 ∷ []
