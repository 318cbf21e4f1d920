-- What an event leaves in the stores.
use Rattle.std.specs.Prelude.{◌≡◌, ℕ, Bool, true, false, ◌==◌, ◌&&◌, is_none, List, [], Option, Some, None}
use Rattle.am_cluster.specs.Events.{Event, Deliver, Tick, Join, Leave, Restart, Learn}
use Rattle.am_cluster.specs.Moments.{effective}
use Rattle.am_item.specs.declared.fault.Fault.{Fault}
use Rattle.am_item.specs.declared.item.Item.{Item}
use Rattle.am_messages.specs.Posted.{posted_at}
use Rattle.am_messages.specs.declared.messages.Posted.{Posted}
use Rattle.am_ring.specs.Instances.{is_among}
use Rattle.am_instance.specs.Node.{Local, blank}
use Rattle.am_instance.specs.Node.{retired}
use Rattle.am_instance.specs.Changing.{rows_held, rows_learned}
use Rattle.am_instance.specs.Here.{Circumstances}
use Rattle.am_instance.specs.Instance.{node_local_in}
use Rattle.am_instance.specs.Leaving.{LeavesEachShelf, LeavesOwn, LeavesShelf, no_rows_of, stop_for}
use Rattle.am_instance.specs.Receiving.{brought_on}
use Rattle.am_instance.specs.Shelves.{Shelf}
use Rattle.am_instance.specs.Ticks.{Either}
use Rattle.am_instance.specs.declared.instance.Instance.{Instance}
use Rattle.am_world.specs.Consistent.{around_at, newest_in}
use Rattle.am_world.specs.Places.{cause_at, instance_at, up_at}
use Rattle.am_world.specs.Refusal.{refusal}
use Rattle.am_world.specs.Shelves.{shelf_at}
use Rattle.am_world.specs.declared.state.State.{State}
use Rattle.am_instance.specs.Site.{IsRejected, with_brought}

-- what the instance of a number has of a tenant, as far as it is stored
abbrev pub stored_where : List ℕ → Option Instance → Local
stored_where t None = blank
stored_where t (Some x) = node_local_in t x

unfoldable pub stored_of : State → ℕ → List ℕ → Local
stored_of w i t = stored_where t (instance_at i w.instances)

-- the fault for which the instance of a number stopped, where it is down
abbrev pub stop_at : ℕ → List Instance → Option Fault
stop_at i instances = stop_for (up_at i instances) (cause_at i instances)

-- the stores to which an event may write: those of instances that are up, of the receiver of a message, and of all at a
-- tick
abbrev pub writes : State → Event → ℕ → Bool
writes w (Deliver name moment) i = i == name.to && up_at i w.instances
writes w (Tick moment) i = up_at i w.instances
writes w e i = false

-- it is the instance of this number, and the event isn't refused
abbrev pub is_taken_at : State → Event → (i j : ℕ) → Bool
is_taken_at w e i j = j == i && is_none (refusal w e)

-- the store that an event opens, or from which it drops the rows of tenants: that of an instance that joins, is
-- restarted or learns a ring, or leaves and is up
abbrev pub opens_or_drops : State → Event → ℕ → Bool
opens_or_drops w (Join j) i = is_taken_at w (Join j) j i
opens_or_drops w (Leave j) i = is_taken_at w (Leave j) j i && up_at i w.instances
opens_or_drops w (Restart j) i = is_taken_at w (Restart j) j i
opens_or_drops w (Learn j) i = is_taken_at w (Learn j) j i
opens_or_drops w e i = false

-- what tenants have of a message's receiver once it came, at a moment: where it is taken, the items that it brings too
abbrev pub received_where : Circumstances → Option Posted → Option Instance → (List ℕ → Local) → List ℕ → Local
received_where around None x locals = locals
received_where around (Some posted) None locals = locals
received_where around (Some posted) (Some x) locals =
    with_brought (brought_on around x posted.message) posted.message.tenant around.moment locals

-- what is so of all tenants where a message comes
abbrev pub around_delivery : State → (moment : ℕ) → Circumstances
around_delivery w moment = around_at (effective moment w.clock) w

-- what tenants have at an instance to whose store an event writes, once the event went well
abbrev pub stored_after : State → Event → ℕ → List ℕ → Local
stored_after w (Deliver name moment) i =
    received_where (around_delivery w moment) (posted_at name w.messages) (instance_at i w.instances) (stored_of w i)
stored_after w (Tick moment) i = λ t. retired moment (stored_of w i t)
stored_after w e i = stored_of w i

-- no store takes what a message brings
abbrev pub RejectedWhere : (List ℕ → List Item → Type 0) → Circumstances → Option Posted → Option Instance → Type 0
RejectedWhere Rejects around None x = ⊥
RejectedWhere Rejects around (Some posted) None = ⊥
RejectedWhere Rejects around (Some posted) (Some x) =
    IsRejected Rejects posted.message.tenant (brought_on around x posted.message)

abbrev pub RejectedBy : (List ℕ → List Item → Type 0) → State → Event → ℕ → Type 0
RejectedBy Rejects w (Deliver name moment) i =
    RejectedWhere Rejects (around_delivery w moment) (posted_at name w.messages) (instance_at i w.instances)
RejectedBy Rejects w e i = ⊥

-- the rows of what the instance of a number holds of a tenant, and once it has learned the next ring
abbrev pub rows_where : Option Instance → List ℕ → List Item
rows_where None t = []
rows_where (Some x) t = rows_held x t

abbrev pub rows_at : State → ℕ → List ℕ → List Item
rows_at w i = rows_where (instance_at i w.instances)

abbrev pub rows_learned_where : Circumstances → Option Instance → List ℕ → List Item
rows_learned_where around None t = []
rows_learned_where around (Some x) t = rows_learned around x t

abbrev pub rows_learned_at : State → ℕ → List ℕ → List Item
rows_learned_at w i = rows_learned_where (around_at w.clock w) (instance_at i w.instances)

-- What it leaves in such a store. One that joins and isn't in the ring, or leaves and is up still, found no memory for
-- the ring.
abbrev pub LeavesOpenedOrDropped : State → Event → State → ℕ → (old new : Shelf) → Type 0
LeavesOpenedOrDropped w (Join j) w' i old new =
    Either (is_among i (newest_in w'.common))
    (LeavesOwn (newest_in w'.common) i (stop_at i w'.instances) old new) (new ≡ old)
LeavesOpenedOrDropped w (Restart j) w' i old new =
    LeavesOwn (newest_in w.common) i (stop_at i w'.instances) old new
LeavesOpenedOrDropped w (Leave j) w' i old new =
    Either (up_at i w'.instances) (new ≡ old)
    (LeavesEachShelf (rows_at w i) no_rows_of (stop_at i w'.instances) old new)
LeavesOpenedOrDropped w (Learn j) w' i old new =
    LeavesEachShelf (rows_at w i) (rows_learned_at w i) (stop_at i w'.instances) old new
LeavesOpenedOrDropped w e w' i old new = Unit {0}

-- what it leaves in the stores, where stores of this kind take no such items: those to which it doesn't write, and
-- which it doesn't turn over, are as they were
pub record LeavesShelves (Rejects : List ℕ → List Item → Type 0) (w : State) (e : Event) (w' : State)
    (old new : List Shelf) : Type 0 where
  pub each : (i : ℕ) → writes w e i ≡ true → LeavesShelf (stored_of w i) (stored_after w e i) (RejectedBy Rejects w e i)
      (stop_at i w'.instances) (shelf_at i old) (shelf_at i new)
  pub turned : (i : ℕ) → opens_or_drops w e i ≡ true → LeavesOpenedOrDropped w e w' i (shelf_at i old) (shelf_at i new)
  pub others : (i : ℕ) → writes w e i ≡ false → opens_or_drops w e i ≡ false → shelf_at i new ≡ shelf_at i old
