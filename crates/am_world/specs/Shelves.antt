-- What stores have beside the instances whose stores they are.
use Rattle.std.specs.Prelude.{◌≡◌, ℕ, zero, suc, ◌==◌, true, false, List, [], length, map, slice_get}
use Rattle.std.specs.Prelude.{Option, Some, None}
use Rattle.am_item.specs.declared.item.Item.{Item}
use Rattle.am_ring.specs.Instances.{is_instance}
use Rattle.am_rows.specs.Rows.{rows_of}
use Rattle.am_rows.specs.declared.rows.Rows.{Ghosts}
use Rattle.am_instance.specs.Instance.{IsDown}
pub use Rattle.am_instance.specs.Shelves.{Shelf}
use Rattle.am_instance.specs.Shelves.{IsBacked, shelf_of}
use Rattle.am_instance.specs.declared.instance.Instance.{Instance}
use Rattle.am_world.specs.Places.{At}

-- what is seen of stores, in their order
abbrev pub shelves_of : {R : Type 0} → Ghosts R → List R → List Shelf
shelves_of g stores = map (shelf_of g) stores

abbrev pub no_shelf : Shelf
no_shelf = record { pairs = []; is_clean = false; is_open = false; medium = record { failures = 0; is_shut = false } }

abbrev pub shelf_where : Option Shelf → Shelf
shelf_where None = no_shelf
shelf_where (Some shelf) = shelf

-- the store of the instance of a number
unfoldable pub shelf_at : ℕ → List Shelf → Shelf
shelf_at zero shelves = shelf_where None
shelf_at (suc p) shelves = shelf_where (slice_get shelves p)

-- what stores have of a tenant, by the number of the instance
abbrev pub rows_in : List Shelf → List ℕ → ℕ → List Item
rows_in shelves t i = rows_of t (shelf_at i shelves).pairs

-- each store is in memory, or its disk has returned what was written
abbrev pub AreClean : List Shelf → Type 0
AreClean shelves = (i : ℕ) → is_instance i ≡ true → (shelf_at i shelves).is_clean ≡ true

-- no store's disk returns again what was written, once it did not
abbrev pub NeverCleaner : (old new : List Shelf) → Type 0
NeverCleaner old new = (i : ℕ) → (shelf_at i new).is_clean ≡ true → (shelf_at i old).is_clean ≡ true

-- who is down reads nothing and has nothing
abbrev pub IsQuiet : Instance → Type 0
IsQuiet x = x.up ≡ false → IsDown x

-- every instance that is up has its rows in its store
pub record AreBacked (xs : List Instance) (shelves : List Shelf) : Type 0 where
  pub size : length shelves ≡ 8
  pub each : (i : ℕ) → At i (λ x. IsBacked x (shelf_at i shelves)) xs

-- .. but for one
pub record AreBackedBut (i : ℕ) (xs : List Instance) (shelves : List Shelf) : Type 0 where
  pub size : length shelves ≡ 8
  pub each : (j : ℕ) → (j == i) ≡ false → At j (λ x. IsBacked x (shelf_at j shelves)) xs

-- whatever its store has, it has that still
abbrev pub StaysBacked : Instance → Instance → Type 0
StaysBacked x x' = (shelf : Shelf) → IsBacked x shelf → IsBacked x' shelf
