-- The greatest incarnation that the rows of a store have.
use Rattle.std.specs.Prelude.{◌≡◌, ◌⊎◌, ◌≤◌, ℕ, Bool, true, List, nat_eq, nat_le}
use Rattle.std.specs.List.{list_all, list_any}
use Rattle.am_item.specs.declared.item.Item.{Item}
use Rattle.am_rows.specs.Rows.{rows_of}

-- no row has a greater one
abbrev pub bounds : ℕ → List Item → Bool
bounds n rows = list_all (λ item. nat_le item.stamp.incarnation n) rows

-- a row has it
abbrev pub has_incarnation : ℕ → List Item → Bool
has_incarnation n rows = list_any (λ item. nat_eq item.stamp.incarnation n) rows

-- the greatest of this one and those of the rows
abbrev pub IsGreatestFrom : (least n : ℕ) → List Item → Type 0
IsGreatestFrom least n rows = (least ≤ n) × (bounds n rows ≡ true) × ((n ≡ least) ⊎ (has_incarnation n rows ≡ true))

-- a row of a tenant has it; or it is 0, which no row need have
abbrev pub IsReached : ℕ → List (List ℕ × Item) → Type 0
IsReached n pairs = (n ≡ 0) ⊎ ((t : List ℕ) × (has_incarnation n (rows_of t pairs) ≡ true))

-- no row of any tenant has a greater one, and one has it; it is 0 where there is no row
pub record IsGreatestIncarnation (n : ℕ) (pairs : List (List ℕ × Item)) : Type 0 where
  pub bound : (t : List ℕ) → bounds n (rows_of t pairs) ≡ true
  pub reached : IsReached n pairs
