-- The lines that are told: as sentences, and as JSON objects.
use Rattle.std.specs.Prelude.{ℕ, List, [], ◌∷◌, ◌++◌, Option, None, Some, codes, decimal, zero, suc}
use Rattle.json.specs.Print.{quoted}
use Rattle.serde_json.specs.Data.{Data, Members, member, no_members, number, object, string, unsigned}
use Rattle.serde_json.specs.Written.{compact_text}
use Rattle.am_text.specs.Printing.{moment_text}
use Rattle.am_log.specs.declared.entry.Change.{Change}
use Rattle.am_log.specs.declared.entry.Change.TheVariants.{Joined, Left, Crashed, Restarted, Forced}
use Rattle.am_log.specs.declared.entry.Entry.{Entry}
use Rattle.am_log.specs.declared.entry.Entry.TheVariants.{Listening, AdminListening, LimitsRead, LimitsRefused}
use Rattle.am_log.specs.declared.entry.Entry.TheVariants.{WebhookFailed, ConnectionsLetGo, Clock}
use Rattle.am_log.specs.declared.entry.Entry.TheVariants.{InstanceStopped, InstanceUp, Changed}
use Rattle.am_log.specs.declared.entry.LetGo.{LetGo}
use Rattle.am_log.specs.declared.entry.LetGo.TheVariants.{Crowded, Unread, Late}
use Rattle.am_log.specs.declared.entry.ToldFailure.{ToldFailure}
use Rattle.am_log.specs.declared.form.Form.{Form}
use Rattle.am_log.specs.declared.form.Form.TheVariants.{Plain, Json}

-- ---- as sentences

-- why connections were let go
abbrev pub reason_text : LetGo → List ℕ
reason_text Crowded = codes "for others that waited"
reason_text Unread = codes "whose replies weren't read"
reason_text Late = codes "that were too slow"

-- what a webhook answered
abbrev pub status_text : Option ℕ → List ℕ
status_text None = codes "no answer"
status_text (Some status) = codes "status " ++ decimal status

-- how many failures were left out: nothing where none was
abbrev pub left_out_text : ℕ → List ℕ
left_out_text zero = []
left_out_text (suc n) = codes "; " ++ (decimal (suc n) ++ codes " more were left out")

-- a call of a webhook that failed, its receiver as a JSON text
abbrev pub failure_text : ToldFailure → List ℕ
failure_text told =
    codes "amring: a webhook of " ++ (told.failure.tenant
    ++ (codes " failed: receiver " ++ (quoted told.failure.receiver
    ++ (codes ", " ++ (status_text told.failure.status
    ++ (codes ", try " ++ (decimal told.failure.tries
    ++ (codes " of instance " ++ (decimal told.failure.instance ++ left_out_text told.left_out)))))))))

-- what was done by hand
abbrev pub change_text : Change → List ℕ
change_text (Joined instance) = codes "instance " ++ (decimal instance ++ codes " was taken into the ring by hand")
change_text (Left instance) = codes "instance " ++ (decimal instance ++ codes " was taken out of the ring by hand")
change_text (Crashed instance) = codes "instance " ++ (decimal instance ++ codes " was shut down by hand")
change_text (Restarted instance) = codes "instance " ++ (decimal instance ++ codes " was restarted by hand")
change_text (Forced tenant) = codes "amring: the replicas of " ++ (tenant ++ codes " were settled by force")

-- an entry
abbrev pub plain_text : Entry → List ℕ
plain_text (Listening address) =
    codes "amring: serves http://" ++ (address ++ codes "; GET /ready tells it the time, once a second or so")
plain_text (AdminListening address) = codes "amring: http://" ++ (address ++ codes "/ring shows and changes the ring")
plain_text (LimitsRead tenants) = codes "amring: limits read; tenants with new ones: " ++ decimal tenants
plain_text (LimitsRefused cause) = codes "amring: " ++ cause
plain_text (WebhookFailed told) = failure_text told
plain_text (ConnectionsLetGo reason count) =
    codes "amring: connections let go " ++ (reason_text reason ++ (codes ": " ++ decimal count))
plain_text (Clock news) = codes "amring: " ++ news
plain_text (InstanceStopped instance cause) = codes "instance " ++ (decimal instance ++ (codes " stopped: " ++ cause))
plain_text (InstanceUp instance) = codes "instance " ++ (decimal instance ++ codes " is up again")
plain_text (Changed change) = change_text change

-- ---- as JSON objects

-- how grave an entry is
abbrev pub level_of : Entry → List ℕ
level_of (Listening address) = codes "info"
level_of (AdminListening address) = codes "info"
level_of (LimitsRead tenants) = codes "info"
level_of (LimitsRefused cause) = codes "error"
level_of (WebhookFailed told) = codes "warn"
level_of (ConnectionsLetGo reason count) = codes "warn"
level_of (Clock news) = codes "warn"
level_of (InstanceStopped instance cause) = codes "error"
level_of (InstanceUp instance) = codes "info"
level_of (Changed change) = codes "info"

-- the word for what was done by hand
abbrev pub change_event : Change → List ℕ
change_event (Joined instance) = codes "instance_joined"
change_event (Left instance) = codes "instance_left"
change_event (Crashed instance) = codes "instance_crashed"
change_event (Restarted instance) = codes "instance_restarted"
change_event (Forced tenant) = codes "tenant_forced"

-- the word for what happened
abbrev pub event_of : Entry → List ℕ
event_of (Listening address) = codes "listening"
event_of (AdminListening address) = codes "admin_listening"
event_of (LimitsRead tenants) = codes "limits_read"
event_of (LimitsRefused cause) = codes "limits_refused"
event_of (WebhookFailed told) = codes "webhook_failed"
event_of (ConnectionsLetGo reason count) = codes "connections_let_go"
event_of (Clock news) = codes "clock"
event_of (InstanceStopped instance cause) = codes "instance_stopped"
event_of (InstanceUp instance) = codes "instance_up"
event_of (Changed change) = change_event change

-- the word for why connections were let go
abbrev pub reason_word : LetGo → List ℕ
reason_word Crowded = codes "crowded"
reason_word Unread = codes "unread"
reason_word Late = codes "late"

-- the status of a webhook's answer; where there is none, that as the cause
abbrev pub status_name : Option ℕ → List ℕ
status_name None = codes "cause"
status_name (Some status) = codes "status"

abbrev pub status_data : Option ℕ → Data
status_data None = string (codes "no answer")
status_data (Some status) = number (unsigned status)

-- what is told of a call of a webhook that failed
abbrev pub failure_members : ToldFailure → Members
failure_members told =
    member (codes "tenant") (string told.failure.tenant)
    (member (codes "receiver") (string told.failure.receiver)
    (member (status_name told.failure.status) (status_data told.failure.status)
    (member (codes "try") (number (unsigned told.failure.tries))
    (member (codes "instance") (number (unsigned told.failure.instance))
    (member (codes "left_out") (number (unsigned told.left_out)) no_members)))))

-- .. of connections that were let go
abbrev pub let_go_members : LetGo → ℕ → Members
let_go_members reason count =
    member (codes "reason") (string (reason_word reason))
    (member (codes "connections") (number (unsigned count)) no_members)

-- .. of an instance that stopped
abbrev pub stopped_members : ℕ → List ℕ → Members
stopped_members instance cause =
    member (codes "instance") (number (unsigned instance)) (member (codes "cause") (string cause) no_members)

-- .. of what was done by hand
abbrev pub change_members : Change → Members
change_members (Joined instance) = member (codes "instance") (number (unsigned instance)) no_members
change_members (Left instance) = member (codes "instance") (number (unsigned instance)) no_members
change_members (Crashed instance) = member (codes "instance") (number (unsigned instance)) no_members
change_members (Restarted instance) = member (codes "instance") (number (unsigned instance)) no_members
change_members (Forced tenant) = member (codes "tenant") (string tenant) no_members

-- what is told of an entry besides
abbrev pub members_of : Entry → Members
members_of (Listening address) = member (codes "address") (string address) no_members
members_of (AdminListening address) = member (codes "address") (string address) no_members
members_of (LimitsRead tenants) = member (codes "tenants") (number (unsigned tenants)) no_members
members_of (LimitsRefused cause) = member (codes "cause") (string cause) no_members
members_of (WebhookFailed told) = failure_members told
members_of (ConnectionsLetGo reason count) = let_go_members reason count
members_of (Clock news) = member (codes "news") (string news) no_members
members_of (InstanceStopped instance cause) = stopped_members instance cause
members_of (InstanceUp instance) = member (codes "instance") (number (unsigned instance)) no_members
members_of (Changed change) = change_members change

-- the object of an entry: when, how grave, what happened, and what is told besides
abbrev pub entry_data : ℕ → Entry → Data
entry_data moment entry = object
    (member (codes "time") (string (moment_text moment))
    (member (codes "level") (string (level_of entry))
    (member (codes "event") (string (event_of entry)) (members_of entry))))

-- ---- the line of an entry, with its end
abbrev pub line_of : Form → ℕ → Entry → List ℕ
line_of Plain moment entry = plain_text entry ++ 10 ∷ []
line_of Json moment entry = compact_text (entry_data moment entry) ++ 10 ∷ []
