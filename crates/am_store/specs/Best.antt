-- What a store has of a tenant, beside a list of the tenant's items.
use Rattle.std.specs.Prelude.{◌≡◌, ℕ, List, option_and_then}
use Rattle.am_item.specs.Best.{item_at}
use Rattle.am_item.specs.declared.key.ThingKey.{ThingKey as Key}
use Rattle.am_item.specs.declared.item.Item.{Item}
use Rattle.am_store.specs.Stored.{Stored, stored_at, stored_item}

-- under each key the store has of the tenant what the list has, where that is stored
abbrev pub Holds : List ℕ → List Item → List (List ℕ × Stored) → Type 0
Holds tenant items pairs = (key : Key) → stored_at tenant key pairs ≡ option_and_then stored_item (item_at key items)
