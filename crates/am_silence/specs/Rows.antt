-- Rows of flags, one for each silence, seen by column.
use Rattle.std.specs.Prelude.{◌≡◌, ℕ, false, Bool, List, [], ◌∷◌, All, get_or, length, if◌then◌else◌}

-- the identifiers of those rows whose flag at this place is set
abbrev pub ids_at : List (List ℕ) → List (List Bool) → ℕ → List (List ℕ)
ids_at ids [] place = []
ids_at [] (row ∷ rows) place = []
ids_at (id ∷ ids) (row ∷ rows) place =
    if get_or row place false then id ∷ ids_at ids rows place else ids_at ids rows place

-- a row of so many flags for each identifier
abbrev pub AreRows : ℕ → List (List ℕ) → List (List Bool) → Type 0
AreRows count ids rows = (length rows ≡ length ids) × All (λ (row : List Bool). length row ≡ count) rows
