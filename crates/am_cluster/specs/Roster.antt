-- The instances: the rings so far, which ring each instance knows, which of them are up, and in which incarnation.
use Rattle.std.specs.Prelude.{◌≡◌, ℕ, ◌+◌, Bool, true, false, ◌&&◌, not, nat_le, nat_lt, ◌==◌, Contains, List, [], ◌∷◌}
use Rattle.std.specs.Prelude.{◌++◌, Option, Some, None, if◌then◌else◌}
use Rattle.am_ring.specs.Changes.{join_refusal, leave_refusal, with_instance, without}
use Rattle.am_ring.specs.Instances.{all_instances, in_order, is_among, is_instance}
use Rattle.am_ring.specs.declared.refusal.RingRefusal.{RingRefusal}
use Rattle.am_ring.specs.declared.refusal.RingRefusal.TheVariants as ring
use Rattle.am_setup.specs.Setup.{Origin}
use Rattle.am_cluster.specs.Refused.{Refused, InstanceNotUp, NoIncarnation, NothingToLearn, RingFull, RingSmall}
use Rattle.am_cluster.specs.Refused.{WrongInstance}
use Rattle.am_cluster.specs.Rings.{Rings, is_always_replica, newest_epoch, newest_ring, ring_at}

-- the function with another value at one place
abbrev pub put_at : {A : Type 0} → (ℕ → A) → ℕ → A → ℕ → A
put_at f i x j = if j == i then x else f j

-- the rings by epoch; of each instance the epoch that it knows, whether it is up, and its incarnation; and the first
-- incarnation, which is that of every instance until it is joined or restarted
pub record Roster : Type 0 where
  pub rings : Rings
  pub known : ℕ → ℕ
  pub up : ℕ → Bool
  pub incarnation : ℕ → ℕ
  pub first : ℕ

-- as all is opened: those of the ring are up, and the ring has epoch 0
abbrev pub opened_roster : Origin → Roster
opened_roster origin = record {
  rings = in_order origin.ring ∷ [];
  known = λ i. 0;
  up = λ i. is_among i origin.ring;
  incarnation = λ i. if is_instance i then origin.first else 0;
  first = origin.first;
}

-- the same of every instance
pub record IsSameRoster (one other : Roster) : Type 0 where
  pub rings : one.rings ≡ other.rings
  pub known : (i : ℕ) → one.known i ≡ other.known i
  pub up : (i : ℕ) → one.up i ≡ other.up i
  pub incarnation : (i : ℕ) → one.incarnation i ≡ other.incarnation i
  pub first : one.first ≡ other.first

-- only instances are up
abbrev pub AreInstancesUp : Roster → Type 0
AreInstancesUp roster = (i : ℕ) → roster.up i ≡ true → Contains all_instances i

abbrev pub ring_now : Roster → List ℕ
ring_now roster = newest_ring roster.rings

-- a tenant's three replicas by the ring that an instance knows, where they are so by ring
unfoldable pub three_at : (replicas_by : List ℕ → List ℕ) → Roster → (i : ℕ) → List ℕ
three_at replicas_by roster i = replicas_by (ring_at (roster.known i) roster.rings)

-- the instance was never joined or restarted, and has been one of them under every ring that it has known
unfoldable pub has_stayed : (replicas_by : List ℕ → List ℕ) → Roster → (i : ℕ) → Bool
has_stayed replicas_by roster i =
    roster.incarnation i == roster.first && is_always_replica replicas_by (roster.known i) roster.rings i

-- ---- what changes the roster

-- the events of the ring and of its instances
pub data RingEvent : Type 0 where
  -- the instance comes into the ring, and is opened
  Joins : (i : ℕ) → RingEvent
  -- it is out of the ring at once
  Leaves : (i : ℕ) → RingEvent
  -- it goes down, and stays in the ring
  Crashes : (i : ℕ) → RingEvent
  -- it comes up again
  Restarts : (i : ℕ) → RingEvent
  -- it goes on to the next ring
  Learns : (i : ℕ) → RingEvent

-- which instance that is
abbrev pub instance_in : RingEvent → ℕ
instance_in (Joins i) = i
instance_in (Leaves i) = i
instance_in (Crashes i) = i
instance_in (Restarts i) = i
instance_in (Learns i) = i

abbrev pub last_incarnation : ℕ
last_incarnation = 4_294_967_295

-- one that had its last incarnation can't be opened; this is looked at last
abbrev pub unless_last : (i : ℕ) → Roster → Option Refused
unless_last i roster = if nat_le last_incarnation (roster.incarnation i) then Some NoIncarnation else None

abbrev pub refused_by_ring : RingRefusal → Refused
refused_by_ring ring.Full = RingFull
refused_by_ring ring.Small = RingSmall
refused_by_ring ring.WrongInstance = WrongInstance

-- the ring refuses, or else this decides
abbrev pub by_ring : Option RingRefusal → Option Refused → Option Refused
by_ring (Some refusal) other = Some (refused_by_ring refusal)
by_ring None other = other

-- why such an event is refused. (The ring is the newest one, whoever knows it.)
unfoldable pub ring_event_refusal : RingEvent → Roster → Option Refused
ring_event_refusal (Joins i) roster = by_ring (join_refusal i (ring_now roster)) (unless_last i roster)
ring_event_refusal (Leaves i) roster = by_ring (leave_refusal i (ring_now roster)) None
ring_event_refusal (Crashes i) roster = if roster.up i then None else Some InstanceNotUp
ring_event_refusal (Restarts i) roster =
    if is_among i (ring_now roster) && not (roster.up i) then unless_last i roster else Some InstanceNotUp
ring_event_refusal (Learns i) roster =
    if roster.up i && nat_lt (roster.known i) (newest_epoch roster.rings) then None else Some NothingToLearn

-- the instance is opened, in its next incarnation, and knows the newest of these rings
abbrev pub with_opened_in : Rings → (i : ℕ) → Roster → Roster
with_opened_in rings i roster = record {
  rings = rings;
  known = put_at roster.known i (newest_epoch rings);
  up = put_at roster.up i true;
  incarnation = put_at roster.incarnation i (roster.incarnation i + 1);
  first = roster.first;
}

-- the roster after such an event: a join and a leave make a ring, which one that joins knows at once and the others
-- learn later
unfoldable pub roster_after : RingEvent → Roster → Roster
roster_after (Joins i) roster =
    with_opened_in (roster.rings ++ with_instance i (ring_now roster) ∷ []) i roster
roster_after (Leaves i) roster = record roster {
  rings = roster.rings ++ without i (ring_now roster) ∷ [];
  up = put_at roster.up i false;
}
roster_after (Crashes i) roster = record roster { up = put_at roster.up i false }
roster_after (Restarts i) roster = with_opened_in roster.rings i roster
roster_after (Learns i) roster = record roster { known = put_at roster.known i (roster.known i + 1) }
