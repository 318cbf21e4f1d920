-- What a list of events is to one tenant, read off the events alone.
use Rattle.std.specs.Prelude.{ℕ, IsTrue, is_some, ◌==◌, ◌≡◌, List, [], ◌∷◌, ◌++◌, Option, None, Some}
use Rattle.std.specs.Prelude.{if◌then◌else◌}
use Rattle.am_http.specs.declared.request.Fed.{Fed}
use Rattle.am_http.specs.declared.request.Fed.TheVariants as fed
use Rattle.am_http.specs.Verdict.{verdict}
use Rattle.am_tenant.specs.Names.{same}
use Rattle.am_cluster.specs.Events.{Event, Open, Bytes, Close, Limits, Tick, Outcome, Deliver, Lose}
use Rattle.am_cluster.specs.Events.{Join, Leave, Crash, Restart, Learn, Force}
use Rattle.am_cluster.specs.Happening.{Happening, Asked, Changed, Delivered, Forced, Limited, Lost, Ticked, Tried}
use Rattle.am_cluster.specs.Moments.{is_too_late}
use Rattle.am_setup.specs.Setup.{Origin}
use Rattle.am_cluster.specs.Roster.{Crashes, Joins, Learns, Leaves, Restarts, RingEvent}
use Rattle.am_cluster.specs.Roster.{Roster, opened_roster, ring_event_refusal, roster_after}

-- ---- what is known from the events: the connections and the instances

-- what became of a connection so far
pub data Seen : Type 0 where
  -- it is open to the instance, and these bytes came
  Reading : (instance : ℕ) (bytes : List ℕ) → Seen
  -- its bytes are a request of this tenant
  AskedAs : (tenant : List ℕ) → Seen
  -- the front answered its bytes, and no tenant sees them
  FrontAnswered : Seen
  -- its client left, or its instance crashed or left the ring, before its bytes were decided
  Shut : Seen

-- the connections by name, the newest entry first; no name is ever forgotten
abbrev pub Table : Type 0
Table = List (ℕ × Seen)

pub record Watch : Type 0 where
  pub table : Table
  pub roster : Roster

-- before any event
abbrev pub first_watch : Origin → Watch
first_watch origin = record { table = []; roster = opened_roster origin }

-- what the table says of a connection
abbrev pub look : ℕ → Table → Option Seen
look c [] = None
look c ((d, seen) ∷ table) = if c == d then Some seen else look c table

-- what all bytes of a connection to an instance make of it
abbrev pub seen_as : ℕ → List ℕ → Fed → Seen
seen_as i bytes fed.Waits = Reading i bytes
seen_as i bytes (fed.Refused reason) = FrontAnswered
seen_as i bytes fed.Ready = FrontAnswered
seen_as i bytes (fed.Request request) = AskedAs request.tenant

-- a piece that came on a connection: only one that is still read takes it
abbrev pub noted : ℕ → List ℕ → Option Seen → Table → Table
noted c piece (Some (Reading i before)) table = (c, seen_as i (before ++ piece) (verdict (before ++ piece))) ∷ table
noted c piece (Some (AskedAs tenant)) table = table
noted c piece (Some FrontAnswered) table = table
noted c piece (Some Shut) table = table
noted c piece None table = table

-- a client that left: its connection is read no more
abbrev pub closed : ℕ → Option Seen → Table → Table
closed c (Some (Reading i bytes)) table = (c, Shut) ∷ table
closed c (Some (AskedAs tenant)) table = table
closed c (Some FrontAnswered) table = table
closed c (Some Shut) table = table
closed c None table = table

-- an instance that crashes or leaves the ring shuts the connections that it reads
abbrev pub shut_by : ℕ → Seen → Seen
shut_by i (Reading j bytes) = if i == j then Shut else Reading j bytes
shut_by i (AskedAs tenant) = AskedAs tenant
shut_by i FrontAnswered = FrontAnswered
shut_by i Shut = Shut

abbrev pub shut_at : ℕ → Table → Table
shut_at i [] = []
shut_at i ((c, seen) ∷ table) = (c, shut_by i seen) ∷ shut_at i table

abbrev pub shut_in : RingEvent → Table → Table
shut_in (Joins i) table = table
shut_in (Leaves i) table = shut_at i table
shut_in (Crashes i) table = shut_at i table
shut_in (Restarts i) table = table
shut_in (Learns i) table = table

-- the ring or an instance changed; what is refused changes nothing
unfoldable pub watch_change : RingEvent → Watch → Watch
watch_change event v =
    if is_some (ring_event_refusal event v.roster) then v
    else record { table = shut_in event v.table; roster = roster_after event v.roster }

abbrev pub with_table : Table → Watch → Watch
with_table table v = record v { table = table }

-- what is known after an event: a connection opens where the instance is up; a piece counts where its moment is allowed,
-- and a change of the ring or of an instance where it isn't refused
unfoldable pub watch : Watch → Event → Watch
watch v (Open c i) = if v.roster.up i then with_table ((c, Reading i []) ∷ v.table) v else v
watch v (Bytes c moment piece) = if is_too_late moment then v else with_table (noted c piece (look c v.table) v.table) v
watch v (Close c) = with_table (closed c (look c v.table) v.table) v
watch v (Limits tenant limits) = v
watch v (Tick moment) = v
watch v (Outcome attempt tries moment status) = v
watch v (Deliver message moment) = v
watch v (Lose message) = v
watch v (Join i) = watch_change (Joins i) v
watch v (Leave i) = watch_change (Leaves i) v
watch v (Crash i) = watch_change (Crashes i) v
watch v (Restart i) = watch_change (Restarts i) v
watch v (Learn i) = watch_change (Learns i) v
watch v (Force tenant) = v

-- ---- what an event is to the tenant

-- a request that names the tenant is one to it, at the event whose piece made it whole
abbrev pub asked_by : List ℕ → (c i moment : ℕ) → Fed → List Happening
asked_by t c i moment fed.Waits = []
asked_by t c i moment (fed.Refused reason) = []
asked_by t c i moment fed.Ready = []
asked_by t c i moment (fed.Request request) = if same t request.tenant then Asked c i moment request ∷ [] else []

-- .. by what the table says of the connection
abbrev pub asked_on : List ℕ → (c moment : ℕ) → List ℕ → Option Seen → List Happening
asked_on t c moment piece (Some (Reading i before)) = asked_by t c i moment (verdict (before ++ piece))
asked_on t c moment piece (Some (AskedAs tenant)) = []
asked_on t c moment piece (Some FrontAnswered) = []
asked_on t c moment piece (Some Shut) = []
asked_on t c moment piece None = []

-- what is named with a tenant is its own
abbrev pub only_of : (t tenant : List ℕ) → Happening → List Happening
only_of t tenant h = if same t tenant then h ∷ [] else []

-- a tick, and a change of the ring or of an instance, happen to every tenant
unfoldable pub adds : List ℕ → Watch → Event → List Happening
adds t v (Open c i) = []
adds t v (Bytes c moment piece) = if is_too_late moment then [] else asked_on t c moment piece (look c v.table)
adds t v (Close c) = []
adds t v (Limits tenant limits) = only_of t tenant (Limited limits)
adds t v (Tick moment) = Ticked moment ∷ []
adds t v (Outcome a tries moment status) =
    only_of t a.tenant (Tried a.instance a.incarnation a.number tries moment status)
adds t v (Deliver m moment) = only_of t m.tenant (Delivered m.from m.incarnation m.to m.count moment)
adds t v (Lose m) = only_of t m.tenant (Lost m.from m.incarnation m.to m.count)
adds t v (Join i) = Changed (Joins i) ∷ []
adds t v (Leave i) = Changed (Leaves i) ∷ []
adds t v (Crash i) = Changed (Crashes i) ∷ []
adds t v (Restart i) = Changed (Restarts i) ∷ []
adds t v (Learn i) = Changed (Learns i) ∷ []
adds t v (Force tenant) = only_of t tenant Forced

-- what a list of events is to the tenant
abbrev pub view : List ℕ → Watch → List Event → List Happening
view t v [] = []
view t v (e ∷ es) = adds t v e ++ view t (watch v e) es

-- what is known after all events
abbrev pub watch_all : Watch → List Event → Watch
watch_all v [] = v
watch_all v (e ∷ es) = watch_all (watch v e) es

-- ---- the premise on names

-- an event that opens a connection gives it a new name (one that is refused opens none)
abbrev pub opens_new : Watch → Event → Type 0
opens_new v (Open c i) = IsTrue (v.roster.up i) → look c v.table ≡ None
opens_new v e = Unit {0}

-- no connection's name is used twice
abbrev pub names_once : Watch → List Event → Type 0
names_once v [] = Unit {0}
names_once v (e ∷ es) = opens_new v e × names_once (watch v e) es
