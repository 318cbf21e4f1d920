-- What is seen of a store, and what it has beside the instance whose store it is.
use Rattle.std.specs.Prelude.{◌≡◌, ℕ, Bool, true, List}
use Rattle.am_item.specs.declared.item.Item.{Item}
use Rattle.am_rows.specs.Refusing.{Medium}
use Rattle.am_rows.specs.Rows.{rows_of, stored_in}
use Rattle.am_rows.specs.declared.rows.Rows.{Ghosts}
use Rattle.am_instance.specs.declared.instance.Instance.{Instance}
use Rattle.am_instance.specs.Instance.{local_in}

-- what is seen of a store: what it has of all tenants; whether its disk has returned what was written; whether it is
-- open, so that no call was refused since it was opened; and what it is kept on
pub record Shelf : Type 0 where
  pub pairs : List (List ℕ × Item)
  pub is_clean : Bool
  pub is_open : Bool
  pub medium : Medium

abbrev pub shelf_of : {R : Type 0} → Ghosts R → R → Shelf
shelf_of g store = record {
  pairs = g.pairs store;
  is_clean = g.is_clean store;
  is_open = g.is_open store;
  medium = g.medium store;
}

-- where the instance is up, its store is open, and has what is held of each tenant, as long as its disk has returned
-- what was written
pub record IsBacked (x : Instance) (shelf : Shelf) : Type 0 where
  pub opens : x.up ≡ true → shelf.is_open ≡ true
  pub stores : x.up ≡ true → shelf.is_clean ≡ true → (t : List ℕ) →
      rows_of t shelf.pairs ≡ stored_in (local_in t x).held
