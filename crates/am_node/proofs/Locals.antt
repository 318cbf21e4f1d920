-- What an instance has of a tenant, room by room, where something happens to one tenant.
use Rattle.std.proofs.Common.{◌≡◌, ℕ, false, List, refl}
use Rattle.am_context.proofs.Changes.{one_changes}
use Rattle.am_context.specs.Stopping.{StopsPast}
use Rattle.am_item.specs.declared.fault.Fault.{Fault}
use Rattle.am_item.specs.declared.fault.Fault.TheVariants.{OutOfMemory, CountsExhausted, PatternNotBuilt, StoreRefused}
use Rattle.am_notifier.specs.Notifies.{Notifies}
use Rattle.am_replica.specs.Holds.{Holds}
use Rattle.am_tenant.specs.Names.{same}
use Rattle.am_node.specs.declared.parts.Parts.{Parts}
use Rattle.am_node.specs.Held.{Does, StopsFor, from_rooms, local_of}
use Rattle.am_node.specs.Local.{Local, Reaction}

-- equal rooms make it equal
pub rooms : (h k : Holds) (n m : Notifies) (d : ℕ) → h ≡ k → n ≡ m → from_rooms h n d ≡ from_rooms k m d
rooms h k n m d holds notifies = rw (holds, notifies) refl

-- it is done for a tenant where the tenant has what it makes, and every other has what it had
pub done : (tenant : List ℕ) (react : Local → Reaction) (before after : Parts) → local_of tenant after ≡ (react (local_of tenant before)).local →
    ((t : List ℕ) → same t tenant ≡ false → local_of t after ≡ local_of t before) → Does tenant react before after
done tenant react before after own_one others =
    one_changes tenant (λ l. (react l).local) (λ t. local_of t before) (λ t. local_of t after) own_one others

-- what stops a room for a count stops the instance
pub stops_for : (reaction : Reaction) (fault : Fault) → StopsPast reaction.fits fault → StopsFor reaction fault
stops_for reaction OutOfMemory stops = tt
stops_for reaction CountsExhausted stops = stops
stops_for reaction PatternNotBuilt stops = stops
stops_for reaction StoreRefused stops = stops
