-- What an instance has of all tenants, in its rooms.
use Rattle.std.specs.Prelude.{◌≡◌, ℕ, false, List, if◌then◌else◌}
use Rattle.am_tenant.specs.Names.{same}
use Rattle.am_item.specs.declared.fault.Fault.{Fault}
use Rattle.am_item.specs.declared.fault.Fault.TheVariants.{OutOfMemory, CountsExhausted, PatternNotBuilt, StoreRefused}
use Rattle.am_notifier.specs.Notifies.{Notifies, notifies_of}
use Rattle.am_replica.specs.Holds.{Holds, holds_of}
use Rattle.am_words.specs.Places.{place_of}
use Rattle.am_node.specs.declared.parts.Parts.{Parts}
use Rattle.am_node.specs.Local.{Local, Reaction}

-- what it has of a tenant is what the rooms have, and the place of the next word
abbrev pub from_rooms : Holds → Notifies → (drawn : ℕ) → Local
from_rooms holds notifies drawn = record {
  held = holds.held;
  plan = notifies.plan;
  noticed = notifies.noticed;
  position = notifies.position;
  ledger = record { stamps = holds.stamps; drawn = drawn };
}

unfoldable pub local_of : List ℕ → Parts → Local
local_of t node = from_rooms (holds_of t node.replica) (notifies_of t node.notifier) (place_of t node.places)

-- what the rooms have of a tenant of whom it has this
abbrev pub holds_in : Local → Holds
holds_in local = record { held = local.held; stamps = local.ledger.stamps }

abbrev pub notifies_in : Local → Notifies
notifies_in local = record { plan = local.plan; noticed = local.noticed; position = local.position }

-- one tenant has what this makes of it, and every other has what it had
abbrev pub Makes : List ℕ → (Local → Local) → Parts → Parts → Type 0
Makes tenant change old new =
    (t : List ℕ) → local_of t new ≡ (if same t tenant then change (local_of t old) else local_of t old)

-- it did this for one tenant
abbrev pub Does : List ℕ → (Local → Reaction) → Parts → Parts → Type 0
Does tenant react old new = Makes tenant (λ local. (react local).local) old new

-- why it stops: a count would have passed the greatest, or memory ran out
abbrev pub StopsFor : Reaction → Fault → Type 0
StopsFor reaction CountsExhausted = reaction.fits ≡ false
StopsFor reaction OutOfMemory = Unit {0}
StopsFor reaction PatternNotBuilt = ⊥
StopsFor reaction StoreRefused = ⊥
