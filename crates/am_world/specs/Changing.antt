-- What instances do where the ring or one of them changes, one after the other.
use Rattle.std.specs.Prelude.{◌≡◌, ◌⊎◌, ℕ, ◌+◌, ◌-◌, ◌^◌, ◌<◌, ◌==◌, ◌&&◌, Bool, true, false, List, [], ◌∷◌, ◌++◌}
use Rattle.std.specs.Prelude.{Some, drop, length, map, min, not, take, if◌then◌else◌}
use Rattle.am_cluster.specs.Events.{Output}
use Rattle.am_cluster.specs.RingChanges.{other_restarted}
use Rattle.am_cluster.specs.Roster.{last_incarnation}
use Rattle.am_cluster.specs.Transfers.{forced}
use Rattle.am_item.specs.declared.fault.Fault.{Fault}
use Rattle.am_ring.specs.Instances.{Members, all_instances, is_among}
use Rattle.am_instance.specs.Changing.{ReactsAll, Restarts, StopsForcing, StopsLearning, StopsOpening}
use Rattle.am_instance.specs.Changing.{StopsReactingAll, learned, learning, renewed}
use Rattle.am_instance.specs.Here.{Circumstances}
use Rattle.am_instance.specs.Instance.{IsDown, IsSameNode, ReadsAlike, ReadsOn, refused_in}
use Rattle.am_instance.specs.Reacting.{Reacts}
use Rattle.am_instance.specs.Shelves.{Shelf}
use Rattle.am_instance.specs.declared.instance.Instance.{Instance}
use Rattle.am_world.specs.Consistent.{around, around_at, newest_in}
use Rattle.am_world.specs.Places.{At, ChangesAt, Turns, cause_at, up_at}
use Rattle.am_world.specs.Posting.{IsSamePost, Posts}
use Rattle.am_world.specs.Simulation.{IsSameBeside, fault_count, put_out}
use Rattle.am_world.specs.declared.state.State.{State}

-- ---- what it goes by

-- the incarnations of all instances, in order of number, where one of them is in its next
abbrev pub incarnations_with : (i : ℕ) → List Instance → List ℕ
incarnations_with i instances =
    map (λ (x : Instance). if x.number == i then x.incarnation + 1 else x.incarnation) instances

-- what is so of all tenants where that instance is opened, at the moment of the clock
abbrev pub around_opening : (i : ℕ) → State → Circumstances
around_opening i w = around w.clock w.common (incarnations_with i w.instances)

-- .. where this is the newest ring then
abbrev pub members_of : List ℕ → Members
members_of ring = record { instances = ring }

abbrev pub with_ring : List ℕ → Circumstances → Circumstances
with_ring ring around = record around { rings = around.rings ++ members_of ring ∷ [] }

-- ---- the turn of one instance

-- it did so at the moment of the clock, and has become this by then: what it told is posted and put out
pub record Acts (i : ℕ) (become : Instance → Instance) (Are : List Output → Instance → Instance → Type 0)
    (w w' : State) : Type 0 where
  pub told : List Output
  pub acts : Turns i (Are told) w.instances w'.instances
  pub node : Turns i (λ x x'. IsSameNode (become x) x') w.instances w'.instances
  pub posts : Posts w.clock told w.messages w'.messages
  pub appended : put_out w' ≡ put_out w ++ told
  pub faults : fault_count w' ≡ fault_count w

-- it has become this, and stopped for such a cause: nothing is put out, every message is as it was, and one fault more
-- is counted
pub record Ends (i : ℕ) (become : Instance → Instance) (Cause : Fault → Instance → Instance → Type 0) (w w' : State) :
    Type 0 where
  pub down : At i IsDown w'.instances
  pub fault : Fault
  pub told : cause_at i w'.instances ≡ Some fault
  pub cause : Turns i (Cause fault) w.instances w'.instances
  pub node : Turns i (λ x x'. IsSameNode (become x) x') w.instances w'.instances
  pub posted : IsSamePost w.messages w'.messages
  pub silent : put_out w' ≡ put_out w
  pub faults : fault_count w' ≡ min (fault_count w + 1) (2 ^ 64 - 1)

-- one or the other, and all else is as it was
pub record TakesPart (i : ℕ) (become : Instance → Instance) (Are : List Output → Instance → Instance → Type 0)
    (Cause : Fault → Instance → Instance → Type 0) (w w' : State) : Type 0 where
  pub ends : Acts i become Are w w' ⊎ Ends i become Cause w w'
  pub others : ChangesAt i w.instances w'.instances
  pub beside : IsSameBeside w w'

-- instances of these numbers did so one after the other
abbrev pub InTurn : (Turn : ℕ → State → State → Type 0) → List ℕ → State → State → Type 0
InTurn Turn [] w w' = w' ≡ w
InTurn Turn (i ∷ is) w w' = (mid : State) × Turn i w mid × InTurn Turn is mid w'

-- one that is up does so, and reads the same connections still; and one that is down does nothing
pub record WhereUp (Are : List Output → Instance → Instance → Type 0) (told : List Output) (x x' : Instance) :
    Type 0 where
  pub stays : ReadsOn x x'
  pub acts : x.up ≡ true → Are told x x'
  pub idle : x.up ≡ false → x' ≡ x
  pub quiet : x.up ≡ false → told ≡ []

-- ---- an instance comes up

-- it is down, it had not its last incarnation, and it is in this ring
pub record MayComeUp (ring : List ℕ) (x : Instance) : Type 0 where
  pub down : x.up ≡ false
  pub next : x.incarnation < last_incarnation
  pub member : is_among x.number ring ≡ true

-- it may be restarted: it is in the newest ring, and not up
abbrev pub may_restart : State → ℕ → Bool
may_restart w i = is_among i (newest_in w.common) && not (up_at i w.instances)

-- it opened its store, of which this was and is seen
abbrev pub ComesUp : Circumstances → (old new : Shelf) → (told : List Output) → Instance → Instance → Type 0
ComesUp around old new told x x' = Restarts around new.is_clean old.pairs x x' [] told

-- why it doesn't, where its store had this
abbrev pub StopsComingUp : Circumstances → Shelf → Fault → Instance → Type 0
StopsComingUp around shelf fault x = StopsOpening around shelf.pairs (Unit {0}) (renewed around x) fault

-- .. as long as the disk has returned what was written
abbrev pub FailsToComeUp : Circumstances → (old new : Shelf) → Fault → Instance → Instance → Type 0
FailsToComeUp around old new fault x x' = new.is_clean ≡ true → StopsComingUp around old fault x

abbrev pub ComesUpAt : Circumstances → (i : ℕ) → (old new : Shelf) → State → State → Type 0
ComesUpAt around i old new w w' =
    TakesPart i (renewed around) (ComesUp around old new) (FailsToComeUp around old new) w w'

-- ---- another one came up again

abbrev pub FollowsRestart : Circumstances → (restarted : ℕ) → (told : List Output) → Instance → Instance → Type 0
FollowsRestart around r told x x' = ReactsAll around (λ t here. other_restarted here r) x x' [] told

abbrev pub FailsToFollow : Circumstances → (restarted : ℕ) → Fault → Instance → Instance → Type 0
FailsToFollow around r fault x x' =
    (x.up ≡ true) × StopsReactingAll around (λ t here. other_restarted here r) x fault

abbrev pub FollowsRestartAt : Circumstances → (restarted i : ℕ) → State → State → Type 0
FollowsRestartAt around r i w w' =
    TakesPart i (λ x. x) (WhereUp (FollowsRestart around r)) (FailsToFollow around r) w w'

-- those of lower numbers follow the restart, then the instance comes up, then those of higher numbers follow it
pub record Restarting (around : Circumstances) (r : ℕ) (old new : Shelf) (w w' : State) : Type 0 where
  pub lower : State
  pub before : InTurn (FollowsRestartAt around r) (take (r - 1) all_instances) w lower
  pub upper : State
  pub opens : ComesUpAt around r old new lower upper
  pub after : InTurn (FollowsRestartAt around r) (drop r all_instances) upper w'

-- ---- an instance learns a ring

-- it is up, and knows one of these rings that isn't the newest
pub record IsBehind (rings : List Members) (x : Instance) : Type 0 where
  pub up : x.up ≡ true
  pub next : x.known + 1 < length rings

pub record LearnsRing (around : Circumstances) (told : List Output) (x x' : Instance) : Type 0 where
  pub reacts : ReactsAll around (learning around x) (learned x) x' [] told
  pub up : x'.up ≡ x.up
  pub front : ReadsAlike x x'

abbrev pub FailsToLearn : Circumstances → Fault → Instance → Instance → Type 0
FailsToLearn around fault x x' = StopsLearning around x (refused_in x') fault

abbrev pub LearnsRingAt : (i : ℕ) → State → State → Type 0
LearnsRingAt i w w' =
    TakesPart i learned (LearnsRing (around_at w.clock w)) (FailsToLearn (around_at w.clock w)) w w'

-- ---- an instance is settled by force

pub record IsForced (around : Circumstances) (tenant : List ℕ) (told : List Output) (x x' : Instance) : Type 0 where
  pub reacts : Reacts around tenant forced x x' [] told
  pub refused : refused_in x' ≡ refused_in x

abbrev pub FailsToForce : Circumstances → (tenant : List ℕ) → Fault → Instance → Instance → Type 0
FailsToForce around tenant fault x x' = (x.up ≡ true) × StopsForcing around tenant x (refused_in x') fault

abbrev pub ForcesAt : Circumstances → (tenant : List ℕ) → (i : ℕ) → State → State → Type 0
ForcesAt around tenant i w w' =
    TakesPart i (λ x. x) (WhereUp (IsForced around tenant)) (FailsToForce around tenant) w w'
