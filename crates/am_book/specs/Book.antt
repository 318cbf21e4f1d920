-- A book as pairs of a tenant and an item.
use Rattle.std.specs.Prelude.{◌≡◌, ◌<◌, Bool, List, ℕ, [], ◌∷◌, ◌++◌, length, take, Option, Some, None, is_none, if◌then◌else◌}
use Rattle.std.specs.BTreeMap.{BTreeMap, IsOrdered, get, values}
use Rattle.std.specs.BTreeSet.{BTreeSet}
use Rattle.std.specs.Cmp.Lexicographic.{slice_cmp}
use Rattle.std.specs.List.{All}
use Rattle.std.specs.Ordering.{nat_cmp}
use Rattle.am_tenant.specs.Names.{same}
use Rattle.am_item.specs.declared.item.Item.{Item}
use Rattle.am_item.specs.Best.{IsRising, all_joined, item_at, joined}
use Rattle.am_item.specs.Key.{key_of}
use Rattle.am_book.specs.Row.{has_row, tells}
use Rattle.am_book.specs.declared.row.Row.{Row}

-- the items that a book holds for a tenant
unfoldable pub items_of : List ℕ → List (List ℕ × Item) → List Item
items_of t [] = []
items_of t ((s, x) ∷ pairs) = if same t s then x ∷ items_of t pairs else items_of t pairs

-- each item of a list with the tenant
abbrev pub with_tenant : List ℕ → List Item → List (List ℕ × Item)
with_tenant t [] = []
with_tenant t (x ∷ xs) = (t, x) ∷ with_tenant t xs

-- what is held of several tenants, as pairs
abbrev pub pairs_in : List (List ℕ × List Item) → List (List ℕ × Item)
pairs_in [] = []
pairs_in ((t, held) ∷ tenants) = with_tenant t held ++ pairs_in tenants

-- what a book holds of its tenants, as pairs
unfoldable pub pairs_of : BTreeMap (List ℕ) (List Item) → List (List ℕ × Item)
pairs_of tenants = pairs_in tenants.entries

-- what is held of the tenants of a book: items in order of key, once for each tenant
pub record AreHeld (tenants : BTreeMap (List ℕ) (List Item)) : Type 0 where
  pub ordered : IsOrdered (slice_cmp nat_cmp) tenants
  pub rising : All IsRising (values tenants)

-- the items in what a look-up of a tenant gives
abbrev pub found_items : Option (List Item) → List Item
found_items None = []
found_items (Some held) = held

-- what a book holds of a tenant
abbrev pub held_of : List ℕ → BTreeMap (List ℕ) (List Item) → List Item
held_of t tenants = found_items (get (slice_cmp nat_cmp) tenants t)

-- the rows are exactly those of what is held
abbrev pub AreTold : BTreeSet Row → BTreeMap (List ℕ) (List Item) → Type 0
AreTold rows tenants = (row : Row) → has_row rows row ≡ tells row (held_of row.tenant tenants)

-- what is held after some of these items joined it, one after the other: the first ones, but not all
pub record IsPartlyJoined (held items now : List Item) : Type 0 where
  pub count : ℕ
  pub fewer : count < length items
  pub joined : now ≡ all_joined held (take count items)

-- no item of this one's key is held
abbrev pub is_new : List Item → Item → Bool
is_new held item = is_none (item_at (key_of item) held)

-- of items that join those held, one after the other: for each, whether there was none of its key when it came
abbrev pub are_new : List Item → List Item → List Bool
are_new held [] = []
are_new held (item ∷ items) = is_new held item ∷ are_new (joined held item) items
