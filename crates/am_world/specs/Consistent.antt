-- What is so of a world between events.
use Rattle.std.specs.Prelude.{◌≡◌, ℕ, ◌<◌, ◌≤◌, ◌==◌, true, false, List, length, map}
pub use Rattle.am_cluster.specs.Moments.{last_moment}
use Rattle.am_cluster.specs.Rings.{newest_ring}
use Rattle.am_ring.specs.Instances.{Members, in_order, is_among}
use Rattle.am_instance.specs.Here.{Circumstances}
use Rattle.am_instance.specs.Shelves.{Shelf}
use Rattle.am_instance.specs.Whole.{IsWhole}
use Rattle.am_instance.specs.declared.instance.Instance.{Instance}
use Rattle.am_world.specs.Places.{AreNumbered, At, EachIs, incarnations_of}
use Rattle.am_world.specs.Posting.{AreFiled, ArePast, ArePastBut, AreReached}
use Rattle.am_world.specs.Shelves.{IsQuiet}
use Rattle.am_world.specs.declared.common.Common.{Common}
use Rattle.am_world.specs.declared.state.State.{State}

-- what is so of all tenants at a moment, where these are the present incarnations
abbrev pub around : (moment : ℕ) → Common → (incarnations : List ℕ) → Circumstances
around moment common incarnations = record {
  moment = moment;
  service_key = common.service_key;
  limits = common.limits;
  rings = common.rings.items;
  first = common.first;
  incarnations = incarnations;
}

abbrev pub around_at : (moment : ℕ) → State → Circumstances
around_at moment w = around moment w.common (incarnations_of w.instances)

-- the newest ring
abbrev pub newest_in : Common → List ℕ
newest_in common = newest_ring (map (λ (ring : Members). ring.instances) common.rings.items)

-- these are instances in order of number
abbrev pub IsRingInOrder : (ring : List ℕ) → Type 0
IsRingInOrder ring = in_order ring ≡ ring

-- who is up is in this ring
abbrev pub IsMember : (ring : List ℕ) → Instance → Type 0
IsMember ring x = x.up ≡ true → is_among x.number ring ≡ true

-- the clock tells a moment that an event may tell; its eight instances stand in order of number, each is whole, and
-- reads nothing and has nothing where it is down; the newest ring is in order, and has all that are up; and each
-- message is under its own name, and its sender has counted it and has reached the incarnation in which it was sent
pub record IsConsistent (w : State) : Type 0 where
  pub clock : w.clock ≤ last_moment
  pub numbered : AreNumbered w.instances
  pub whole : EachIs (IsWhole (around_at w.clock w)) w.instances
  pub quiet : EachIs IsQuiet w.instances
  pub ring : IsRingInOrder (newest_in w.common)
  pub members : EachIs (IsMember (newest_in w.common)) w.instances
  pub filed : AreFiled w.messages
  pub past : ArePast w.messages w.instances
  pub fresh : AreReached w.messages w.instances

-- .. but for one instance, of which it is known alone that it knows one of the rings
pub record IsConsistentBut (i : ℕ) (w : State) : Type 0 where
  pub clock : w.clock ≤ last_moment
  pub numbered : AreNumbered w.instances
  pub whole : (j : ℕ) → (j == i) ≡ false → At j (IsWhole (around_at w.clock w)) w.instances
  pub quiet : (j : ℕ) → (j == i) ≡ false → At j IsQuiet w.instances
  pub known : At i (λ x. x.known < length w.common.rings.items) w.instances
  pub ring : IsRingInOrder (newest_in w.common)
  pub members : (j : ℕ) → (j == i) ≡ false → At j (IsMember (newest_in w.common)) w.instances
  pub filed : AreFiled w.messages
  pub past : ArePastBut i w.messages w.instances
  pub fresh : AreReached w.messages w.instances

-- a world, and what is seen of its stores
pub record Contents : Type 0 where
  pub state : State
  pub shelves : List Shelf

-- .. of stores of which this is seen
abbrev pub over : State → List Shelf → Contents
over w shelves = record { state = w; shelves = shelves }
