-- Events by which the ring or its instances change.
use Rattle.std.specs.Prelude.{◌≡◌, ℕ, ◌==◌, ◌&&◌, Bool, true, false, is_none, is_some, List, [], ◌∷◌, if◌then◌else◌}
use Rattle.am_cluster.specs.Events.{Event, Join, Leave, Crash, Restart, Learn}
use Rattle.am_cluster.specs.Roster.{Crashes, Joins, Learns, Leaves, Restarts, RingEvent, Roster}
use Rattle.am_cluster.specs.Roster.{ring_event_refusal, roster_after}
use Rattle.am_ring.specs.Instances.{is_instance}
use Rattle.am_instance.specs.Shelves.{Shelf}
use Rattle.am_world.specs.Shelves.{shelf_at}

-- the rings and instances after such a change; one that is refused changes nothing
unfoldable pub roster_with : RingEvent → Roster → Roster
roster_with change roster = if is_some (ring_event_refusal change roster) then roster else roster_after change roster

-- .. and after an event
abbrev pub roster_then : Event → Roster → Roster
roster_then (Join i) roster = roster_with (Joins i) roster
roster_then (Leave i) roster = roster_with (Leaves i) roster
roster_then (Crash i) roster = roster_with (Crashes i) roster
roster_then (Restart i) roster = roster_with (Restarts i) roster
roster_then (Learn i) roster = roster_with (Learns i) roster
roster_then e roster = roster

-- ---- stores that are opened

-- the event opens the store of this instance, where the rings and instances are these
abbrev pub opens_store : Roster → Event → ℕ → Bool
opens_store roster (Join i) j = j == i && is_none (ring_event_refusal (Joins i) roster)
opens_store roster (Restart i) j = j == i && is_none (ring_event_refusal (Restarts i) roster)
opens_store roster e j = false

-- if the event opens this store, it is in memory, or its disk has returned what was written
abbrev pub IsOpenedClean : Roster → Event → (new : List Shelf) → ℕ → Type 0
IsOpenedClean roster e new i = opens_store roster e i ≡ true → (shelf_at i new).is_clean ≡ true

-- .. so is each that it opens
abbrev pub OpensClean : Roster → Event → (new : List Shelf) → Type 0
OpensClean roster e new = (i : ℕ) → is_instance i ≡ true → IsOpenedClean roster e new i

-- .. so is each that events open, one after the other
abbrev pub AreOpenedClean : Roster → List Event → (new : List Shelf) → Type 0
AreOpenedClean roster [] new = Unit {0}
AreOpenedClean roster (e ∷ es) new = OpensClean roster e new × AreOpenedClean (roster_then e roster) es new
