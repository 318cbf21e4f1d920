-- When an event is refused.
use Rattle.std.specs.Prelude.{ℕ, Bool, true, false, is_some, List, Option, None, Some, if◌then◌else◌}
use Rattle.am_cluster.specs.Courses.{refusal_of, refused_unless}
use Rattle.am_cluster.specs.Events.{Event, Open, Bytes, Close, Limits, Tick, Outcome, Deliver, Lose}
use Rattle.am_cluster.specs.Events.{Join, Leave, Crash, Restart, Learn, Force}
use Rattle.am_cluster.specs.Happening.{Delivered, Lost, Tried}
use Rattle.am_cluster.specs.Moments.{is_refused_tick, is_too_late}
use Rattle.am_cluster.specs.PrivateCluster.{PrivateCluster}
use Rattle.am_cluster.specs.Refused.{Refused, InstanceNotUp, MomentRefused, NotAwaited, NotReading, NotSent}
use Rattle.am_cluster.specs.Roster.{Crashes, Joins, Learns, Leaves, Restarts, ring_event_refusal}
use Rattle.am_cluster.specs.View.{Seen, Reading, AskedAs, FrontAnswered, Shut, Watch, look}
use Rattle.am_messages.specs.Posted.{posted_at}
use Rattle.am_world.specs.Places.{awaits_at, reader_of, up_at}
use Rattle.am_world.specs.Simulation.{Stands, roster_of}
use Rattle.am_world.specs.declared.state.State.{State}

-- the moment is looked at first
abbrev pub refusal : State → Event → Option Refused
refusal w (Open c i) = refused_unless (up_at i w.instances) InstanceNotUp
refusal w (Bytes c moment piece) =
    if is_too_late moment then Some MomentRefused
    else refused_unless (is_some (reader_of c w.instances)) NotReading
refusal w (Close c) = refused_unless (is_some (reader_of c w.instances)) NotReading
refusal w (Limits tenant limits) = None
refusal w (Tick moment) = if is_refused_tick moment w.clock then Some MomentRefused else None
refusal w (Outcome attempt tries moment status) =
    if is_too_late moment then Some MomentRefused
    else refused_unless (awaits_at attempt tries w.instances) NotAwaited
refusal w (Deliver name moment) =
    if is_too_late moment then Some MomentRefused
    else refused_unless (is_some (posted_at name w.messages)) NotSent
refusal w (Lose name) = refused_unless (is_some (posted_at name w.messages)) NotSent
refusal w (Join i) = ring_event_refusal (Joins i) (roster_of w)
refusal w (Leave i) = ring_event_refusal (Leaves i) (roster_of w)
refusal w (Crash i) = ring_event_refusal (Crashes i) (roster_of w)
refusal w (Restart i) = ring_event_refusal (Restarts i) (roster_of w)
refusal w (Learn i) = ring_event_refusal (Learns i) (roster_of w)
refusal w (Force tenant) = None

-- a connection that is neither unknown nor decided, nor shut
abbrev pub is_read : Option Seen → Bool
is_read None = false
is_read (Some (Reading i bytes)) = true
is_read (Some (AskedAs tenant)) = false
is_read (Some FrontAnswered) = false
is_read (Some Shut) = false

-- the same by what happened before alone: what is known from the events, the last tick, and each tenant's private
-- cluster
abbrev pub refusal_seen : Watch → ℕ → (List ℕ → PrivateCluster) → Event → Option Refused
refusal_seen v clock alone (Open c i) = refused_unless (v.roster.up i) InstanceNotUp
refusal_seen v clock alone (Bytes c moment piece) =
    if is_too_late moment then Some MomentRefused else refused_unless (is_read (look c v.table)) NotReading
refusal_seen v clock alone (Close c) = refused_unless (is_read (look c v.table)) NotReading
refusal_seen v clock alone (Limits tenant limits) = None
refusal_seen v clock alone (Tick moment) = if is_refused_tick moment clock then Some MomentRefused else None
refusal_seen v clock alone (Outcome a tries moment status) =
    refusal_of (alone a.tenant) (Tried a.instance a.incarnation a.number tries moment status)
refusal_seen v clock alone (Deliver m moment) =
    refusal_of (alone m.tenant) (Delivered m.from m.incarnation m.to m.count moment)
refusal_seen v clock alone (Lose m) = refusal_of (alone m.tenant) (Lost m.from m.incarnation m.to m.count)
refusal_seen v clock alone (Join i) = ring_event_refusal (Joins i) v.roster
refusal_seen v clock alone (Leave i) = ring_event_refusal (Leaves i) v.roster
refusal_seen v clock alone (Crash i) = ring_event_refusal (Crashes i) v.roster
refusal_seen v clock alone (Restart i) = ring_event_refusal (Restarts i) v.roster
refusal_seen v clock alone (Learn i) = ring_event_refusal (Learns i) v.roster
refusal_seen v clock alone (Force tenant) = None

-- the world has what the private cluster has of the tenant that an event names, if it names one whose cluster is asked
abbrev pub StandsFor : Event → State → (List ℕ → PrivateCluster) → Type 0
StandsFor (Open c i) w alone = Unit {0}
StandsFor (Bytes c moment piece) w alone = Unit {0}
StandsFor (Close c) w alone = Unit {0}
StandsFor (Limits tenant limits) w alone = Unit {0}
StandsFor (Tick moment) w alone = Unit {0}
StandsFor (Outcome a tries moment status) w alone = Stands a.tenant w (alone a.tenant)
StandsFor (Deliver m moment) w alone = Stands m.tenant w (alone m.tenant)
StandsFor (Lose m) w alone = Stands m.tenant w (alone m.tenant)
StandsFor (Join i) w alone = Unit {0}
StandsFor (Leave i) w alone = Unit {0}
StandsFor (Crash i) w alone = Unit {0}
StandsFor (Restart i) w alone = Unit {0}
StandsFor (Learn i) w alone = Unit {0}
StandsFor (Force tenant) w alone = Unit {0}
