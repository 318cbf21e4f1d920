-- Why an event stops instances, and what it leaves then.
use Rattle.std.specs.Prelude.{◌≡◌, ◌⊎◌, ℕ, ◌==◌, ◌&&◌, ◌||◌, ◌+◌, ◌-◌, ◌^◌, Bool, true, false, List, [], ◌++◌}
use Rattle.std.specs.Prelude.{Option, None, Some, filter, flat_map, length, max, min}
use Rattle.am_cluster.specs.Delivery.{outcome}
use Rattle.am_cluster.specs.Events.{Event, Open, Bytes, Close, Limits, Tick, Outcome, Deliver, Lose, Output}
use Rattle.am_cluster.specs.Events.{Join, Leave, Crash, Restart, Learn, Force}
use Rattle.am_cluster.specs.Moments.{effective}
use Rattle.am_cluster.specs.RingChanges.{other_restarted}
use Rattle.am_cluster.specs.Roster.{Roster}
use Rattle.am_http.specs.Verdict.{verdict}
use Rattle.am_item.specs.declared.fault.Fault.{Fault}
use Rattle.am_item.specs.declared.fault.Fault.TheVariants.{OutOfMemory}
use Rattle.am_limit.specs.Books.{limits_of}
use Rattle.am_messages.specs.Posted.{posted_at, unlost}
use Rattle.am_messages.specs.declared.messages.Posted.{Posted}
use Rattle.am_messages.specs.declared.name.MessageName.{MessageName}
use Rattle.am_ring.specs.Changes.{with_instance}
use Rattle.am_ring.specs.Instances.{all_instances}
use Rattle.am_instance.specs.Bringing.{IsCause}
use Rattle.am_instance.specs.Changing.{StopsForcing, StopsLearning, StopsLeaving, StopsReactingAll}
use Rattle.am_instance.specs.Here.{Circumstances, here_on}
use Rattle.am_instance.specs.Instance.{IsDown, bytes_in}
use Rattle.am_instance.specs.Receiving.{StopsReceiving}
use Rattle.am_instance.specs.Shelves.{Shelf}
pub use Rattle.am_instance.specs.Ticks.{Either}
use Rattle.am_instance.specs.Ticks.{StopsTicking, Ticks}
use Rattle.am_instance.specs.declared.instance.Instance.{Instance}
use Rattle.am_world.specs.Changes.{IsOpenedClean, roster_then}
use Rattle.am_world.specs.Changing.{ComesUp, FollowsRestart, IsForced, StopsComingUp, WhereUp, around_opening}
use Rattle.am_world.specs.Changing.{with_ring}
use Rattle.am_world.specs.Consistent.{Contents, around_at, newest_in}
use Rattle.am_world.specs.Places.{At, KeepRefused, Turns, cause_at, instance_at, reader_of, up_at}
use Rattle.am_world.specs.Posting.{posted_over}
use Rattle.am_world.specs.Refusal.{refusal}
use Rattle.am_world.specs.Shelves.{NeverCleaner, shelf_at}
use Rattle.am_world.specs.Simulation.{fault_count, put_out, refused_by, roster_of}
use Rattle.am_world.specs.Steps.{Kept, clock_after}
use Rattle.am_world.specs.declared.state.State.{State}
use Rattle.am_instance.specs.Site.{StopsReacting}

-- it is the instance of this number, where there is one
abbrev pub is_that : Option ℕ → ℕ → Bool
is_that None j = false
is_that (Some i) j = j == i

-- the instances of which an event asks work
abbrev pub works : State → Event → ℕ → Bool
works w (Open c i) j = j == i
works w (Bytes c moment piece) j = is_that (reader_of c w.instances) j
works w (Close c) j = is_that (reader_of c w.instances) j
works w (Limits tenant limits) j = false
works w (Tick moment) j = up_at j w.instances
works w (Outcome attempt tries moment status) j = j == attempt.instance
works w (Deliver name moment) j = j == name.to && up_at j w.instances
works w (Lose name) j = false
works w (Join i) j = j == i
works w (Leave i) j = j == i
works w (Crash i) j = j == i
works w (Restart i) j = j == i || up_at j w.instances
works w (Learn i) j = j == i
works w (Force tenant) j = up_at j w.instances

-- why an event stops an instance of which it asks work: by what the instance had, and by the patterns that it had been
-- refused the build of then; memory may run out anywhere
abbrev pub StopsBy : State → List Shelf → Event → (j : ℕ) → Fault → (refused : List (List ℕ)) → Type 0
StopsBy w shelves (Open c i) j fault refused = fault ≡ OutOfMemory
StopsBy w shelves (Bytes c moment piece) j fault refused =
    At j (λ x. (before : List ℕ) → bytes_in c x ≡ Some before →
    IsCause fault (verdict (before ++ piece)) c (around_at (effective moment w.clock) w) x) w.instances
StopsBy w shelves (Close c) j fault refused = ⊥
StopsBy w shelves (Limits tenant limits) j fault refused = ⊥
StopsBy w shelves (Tick moment) j fault refused =
    At j (λ x. StopsTicking (around_at moment w) x refused fault) w.instances
StopsBy w shelves (Outcome a tries moment status) j fault refused =
    At j (λ x. StopsReacting a.tenant
    (outcome (here_on (around_at (effective moment w.clock) w) x a.tenant) a.number tries status) x.site fault)
    w.instances
StopsBy w shelves (Deliver name moment) j fault refused =
    (posted : Posted) → posted_at name w.messages ≡ Some posted →
    At j (λ x. StopsReceiving (refused_by w j) refused (around_at (effective moment w.clock) w) posted.message x fault)
    w.instances
StopsBy w shelves (Lose name) j fault refused = ⊥
StopsBy w shelves (Join i) j fault refused =
    At j (StopsComingUp (with_ring (with_instance i (newest_in w.common)) (around_opening i w)) (shelf_at i shelves)
    fault) w.instances
StopsBy w shelves (Leave i) j fault refused = At j (λ x. StopsLeaving x fault) w.instances
StopsBy w shelves (Crash i) j fault refused = ⊥
StopsBy w shelves (Restart i) j fault refused =
    At j (λ x. Either (j == i) (StopsComingUp (around_opening i w) (shelf_at i shelves) fault x)
    (StopsReactingAll (around_opening i w) (λ t here. other_restarted here i) x fault)) w.instances
StopsBy w shelves (Learn i) j fault refused =
    At j (λ x. StopsLearning (around_at w.clock w) x refused fault) w.instances
StopsBy w shelves (Force tenant) j fault refused =
    At j (λ x. StopsForcing (around_at w.clock w) tenant x refused fault) w.instances

-- the cause for which an instance is down after an event; for one whose store the event opened it is known where the
-- disk had returned what was written
pub record StoppedBy (c : Contents) (e : Event) (i : ℕ) (c' : Contents) : Type 0 where
  pub fault : Fault
  pub told : cause_at i c'.state.instances ≡ Some fault
  pub cause : IsOpenedClean (roster_of c.state) e c'.shelves i →
      StopsBy c.state c.shelves e i fault (refused_by c'.state i)

-- one fault for each instance that stopped, and one at least
abbrev pub faults_of : (ℕ → Bool) → ℕ
faults_of stopped = max 1 (length (filter stopped all_instances))

-- the instance of this number is in the same incarnation and knows the same ring
abbrev pub IsSameStart : ℕ → (one other : Roster) → Type 0
IsSameStart i one other = (one.incarnation i ≡ other.incarnation i) × (one.known i ≡ other.known i)

-- ---- messages

-- what stands under a name once an event has lost what is to be lost
abbrev pub left_by : Event → Option Posted → Option Posted
left_by (Tick moment) posted = unlost moment posted
left_by e posted = posted

-- the messages are those that each instance told, and what was there before
abbrev pub LeavesPost : State → Event → (told : ℕ → List Output) → State → Type 0
LeavesPost w e told w' = (name : MessageName) →
    posted_at name w'.messages ≡ posted_over w'.clock (told name.from) name (left_by e (posted_at name w.messages))

-- ---- who goes on

-- where one instance was restarted: it came up, and opened its store, of which this was and is seen; or another one
-- followed that, and is up and reads the same connections still
abbrev pub ComesUpOrFollows : Circumstances → (is_that : Bool) → (restarted : ℕ) → (old new : Shelf)
    → (told : List Output) → Instance → Instance → Type 0
ComesUpOrFollows around is_that r old new told x x' =
    Either is_that (ComesUp around old new told x x') (WhereUp (FollowsRestart around r) told x x')

-- An instance of which work was asked did it, and told this: it ticked, came up again or followed the restart of
-- another one, or was settled by force. No other event asks work of several, so that of any that met a fault the one
-- that works has stopped.
abbrev pub WentOn : Contents → Event → ℕ → (told : List Output) → Contents → Type 0
WentOn c (Tick moment) i told c' =
    Turns i (λ x x'. Ticks (around_at moment c.state) x x' [] told) c.state.instances c'.state.instances
WentOn c (Restart r) i told c' =
    Turns i
    (ComesUpOrFollows (around_opening r c.state) (i == r) r (shelf_at r c.shelves) (shelf_at r c'.shelves) told)
    c.state.instances c'.state.instances
WentOn c (Force tenant) i told c' =
    Turns i (WhereUp (IsForced (around_at c.state.clock c.state) tenant) told) c.state.instances c'.state.instances
WentOn c e i told c' = ⊥

-- ---- an event that met a fault

-- It wasn't refused, and instances of which it asked work stopped. They are down, each for its cause, and have told
-- nothing; of the others each that had work did it, and each that had none is as it was. What was told is put out, in
-- order of number. The ring is that after the event, and each instance is in the incarnation and knows the ring that it
-- has then, those that stopped too.
pub record StopsSome (c : Contents) (e : Event) (c' : Contents) : Type 0 where
  pub taken : refusal c.state e ≡ None
  pub stopped : ℕ → Bool
  pub some : (i : ℕ) × (stopped i ≡ true)
  pub worked : (i : ℕ) → stopped i ≡ true → works c.state e i ≡ true
  pub down : (i : ℕ) → stopped i ≡ true → At i IsDown c'.state.instances
  pub causes : (i : ℕ) → stopped i ≡ true → StoppedBy c e i c'
  pub others : (i : ℕ) → works c.state e i ≡ false →
      instance_at i c'.state.instances ≡ instance_at i c.state.instances
  pub starts : (i : ℕ) → IsSameStart i (roster_of c'.state) (roster_then e (roster_of c.state))
  pub told : ℕ → List Output
  pub goes_on : (i : ℕ) → works c.state e i ≡ true → stopped i ≡ false → WentOn c e i (told i) c'
  pub silent : (i : ℕ) → stopped i ≡ true → told i ≡ []
  pub idle : (i : ℕ) → works c.state e i ≡ false → told i ≡ []
  pub appended : put_out c'.state ≡ put_out c.state ++ flat_map told all_instances
  pub posted : LeavesPost c.state e told c'.state
  pub limits : (t : List ℕ) → limits_of t c'.state.common.limits ≡ limits_of t c.state.common.limits
  pub service_key : c'.state.common.service_key ≡ c.state.common.service_key
  pub rings : (roster_of c'.state).rings ≡ (roster_then e (roster_of c.state)).rings
  pub first : c'.state.common.first ≡ c.state.common.first
  pub refused : KeepRefused c.state.instances c'.state.instances
  pub counted : fault_count c'.state ≡ min (fault_count c.state + faults_of stopped) (2 ^ 64 - 1)
  pub clock : c'.state.clock ≡ clock_after e c.state.clock

-- the event takes memory beside instances: for limits or a ring
abbrev pub may_fail_alone : Event → Bool
may_fail_alone (Limits tenant limits) = true
may_fail_alone (Join i) = true
may_fail_alone (Leave i) = true
may_fail_alone e = false

-- It wasn't refused, and found no memory for that: nothing has changed, but one fault more is counted.
pub record ChangesNothing (c : Contents) (e : Event) (c' : Contents) : Type 0 where
  pub taken : refusal c.state e ≡ None
  pub may : may_fail_alone e ≡ true
  pub clock : c'.state.clock ≡ c.state.clock
  pub limits : (t : List ℕ) → limits_of t c'.state.common.limits ≡ limits_of t c.state.common.limits
  pub service_key : c'.state.common.service_key ≡ c.state.common.service_key
  pub rings : c'.state.common.rings.items ≡ c.state.common.rings.items
  pub first : c'.state.common.first ≡ c.state.common.first
  pub instances : c'.state.instances ≡ c.state.instances
  pub messages : c'.state.messages ≡ c.state.messages
  pub outputs : put_out c'.state ≡ put_out c.state
  pub counted : fault_count c'.state ≡ min (fault_count c.state + 1) (2 ^ 64 - 1)
  pub shelves : c'.shelves ≡ c.shelves

-- an event that met a fault stops instances, or changes nothing
abbrev pub Faulted : Contents → Event → Contents → Type 0
Faulted c e c' = StopsSome c e c' ⊎ ChangesNothing c e c'

-- an event either met no fault, or is one; and no disk returns again what was written, once it did not
pub record Step (c : Contents) (e : Event) (c' : Contents) : Type 0 where
  pub ends : Kept c e c' ⊎ Faulted c e c'
  pub clean : NeverCleaner c.shelves c'.shelves
