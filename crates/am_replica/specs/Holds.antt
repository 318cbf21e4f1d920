-- What an instance holds of each tenant.
use Rattle.std.specs.Prelude.{◌≡◌, ℕ, ◌+◌, List, [], if◌then◌else◌}
use Rattle.am_book.specs.Book.{items_of}
use Rattle.am_item.specs.Best.{all_joined}
use Rattle.am_item.specs.Counts.{count_of}
use Rattle.am_item.specs.declared.item.Item.{Item}
use Rattle.am_replica.specs.declared.replica.Replica.{Replica}
use Rattle.am_tenant.specs.Names.{same}

-- the best of the items that it accepted, and how many stamps it has counted
pub record Holds : Type 0 where
  pub held : List Item
  pub stamps : ℕ

abbrev pub nothing : Holds
nothing = record { held = []; stamps = 0 }

-- what it holds of a tenant
unfoldable pub holds_of : List ℕ → Replica → Holds
holds_of t replica = record { held = items_of t replica.holdings; stamps = count_of t replica.counts }

-- of one tenant it holds what this makes of it, and of every other what it held
abbrev pub Makes : List ℕ → (Holds → Holds) → Replica → Replica → Type 0
Makes tenant change old new =
    (t : List ℕ) → holds_of t new ≡ (if same t tenant then change (holds_of t old) else holds_of t old)

-- items are accepted: of each key the best is held
abbrev pub accepted : List Item → Holds → Holds
accepted items holds = record holds { held = all_joined holds.held items }

-- so many more stamps are counted
abbrev pub counted : ℕ → Holds → Holds
counted more holds = record holds { stamps = holds.stamps + more }

-- all is forgotten but how many stamps were counted
abbrev pub dropped : Holds → Holds
dropped holds = record holds { held = [] }
