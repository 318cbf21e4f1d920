-- What an instance does with a message that comes, and why it stops at one.
use Rattle.std.specs.Prelude.{◌≡◌, ◌⊎◌, ℕ, Bool, true, false, List, [], Option, Some, None, IfSome, Result}
use Rattle.std.specs.Prelude.{if◌then◌else◌}
use Rattle.am_api.specs.Replied.{Decision, refused}
use Rattle.am_cluster.specs.Arriving.{Arrival, Counted, Dropped, Taken, answer_get, arrival, arrive, does, is_meant}
use Rattle.am_cluster.specs.Here.{Here}
use Rattle.am_cluster.specs.Local.{Local}
use Rattle.am_cluster.specs.Messages.{Ack, Answer, Ask, Body, Get, Got, Message, Put, State}
use Rattle.am_cluster.specs.Operating.{acked}
use Rattle.am_cluster.specs.Operations.{Operation}
use Rattle.am_cluster.specs.Transfers.{answer_ask, take_got}
use Rattle.am_item.specs.declared.fault.Fault.{Fault}
use Rattle.am_item.specs.declared.fault.Fault.TheVariants.{OutOfMemory, CountsExhausted, PatternNotBuilt, StoreRefused}
use Rattle.am_item.specs.declared.item.Item.{Item}
use Rattle.am_muting.specs.Failing.{AddsAmong}
use Rattle.am_node.specs.Accepting.{accepted_for}
use Rattle.am_node.specs.Local.{Local as NodeLocal}
use Rattle.am_node.specs.Storing.{LeavesStore}
use Rattle.am_pattern.specs.Asking.{Asked, Grows}
use Rattle.am_pattern.specs.Cache.{Cache}
use Rattle.am_rows.specs.Refusing.{Medium}
use Rattle.am_transfer.specs.Peers.{peer}
use Rattle.am_site.specs.Deciding.{IsDecided, StopsAnswering, asked_by, decides_on}
use Rattle.am_site.specs.Here.{here_of}
use Rattle.am_site.specs.Locals.{local_of}
use Rattle.am_site.specs.Putting.{StopsPutting, StopsSettling}
use Rattle.am_site.specs.Reacting.{Moves, StopsReacting}
use Rattle.am_site.specs.declared.here.Here.{Here as Given}
use Rattle.am_site.specs.declared.said.Said.{Said as Spoken}
use Rattle.am_site.specs.declared.site.Site.{Site}

-- ---- the decision that it brings

-- the operation that a message decides, and the list on which it does
abbrev pub decides : Message → Body → Local → Option (Operation × List Item)
decides message (Answer operation incarnation items) local =
    decides_on operation message.epoch (record { from = message.from; items = items }) local.operations
decides message (Get operation) local = None
decides message (Put operation items) local = None
decides message (Ack operation incarnation) local = None
decides message (Ask incarnation) local = None
decides message (State incarnation place is_last items) local = None
decides message (Got incarnation place) local = None

-- .. where the instance is meant
abbrev pub decided_by : Given → Message → Local → Option (Operation × List Item)
decided_by here message local =
    if is_meant (here_of here) message message.body local then decides message message.body local else None

-- the decision is one that may be made there
abbrev pub IsMade : (before after : List (List ℕ)) → Given → Message → Local → Decision → Type 0
IsMade before after here message local decision =
    IfSome (decided_by here message local) (λ d. IsDecided before after here d.0.request d.1 local decision)

-- ---- what it does

-- any decision, where none is made
abbrev pub no_decision : Decision
no_decision = refused 503 []

-- what a message is for is done: the reaction is that to this decision, which is one that may be made
pub record Takes (here : Given) (before after : List (List ℕ)) (message : Message) (body : Body) (old new : Site)
    (outbox more : List Spoken) : Type 0 where
  pub decision : Decision
  pub made : IfSome (decides message body (local_of here.tenant.now old))
      (λ d. IsDecided before after here d.0.request d.1 (local_of here.tenant.now old) decision)
  pub moves : Moves here.tenant.now (does (λ _ _ _ _. decision) (here_of here) message body) old new outbox more

-- a message comes: the reaction is that to this decision, which is one that may be made
pub record Arrives (here : Given) (before after : List (List ℕ)) (message : Message) (old new : Site)
    (outbox more : List Spoken) : Type 0 where
  pub decision : Decision
  pub made : IsMade before after here message (local_of here.tenant.now old) decision
  pub moves : Moves here.tenant.now (arrive (λ _ _ _ _. decision) (here_of here) message) old new outbox more

-- what a call leaves in a cache that does what a message is for: an Answer may have patterns of the decision refused, a
-- Put and a State ask patterns of routes, and every other kind asks none
abbrev pub AsksFor : {X E : Type 0} → Given → Message → Body → Local → Result X E → Cache → Cache → Type 0
AsksFor here message (Answer operation incarnation items) local result old new =
    AddsAmong (asked_by here (decides message (Answer operation incarnation items) local)) old.refused new.refused
    × Grows old new
AsksFor here message (Put operation items) local result old new = Asked result old new
AsksFor here message (State incarnation place is_last items) local result old new = Asked result old new
AsksFor here message (Get operation) local result old new = new ≡ old
AsksFor here message (Ack operation incarnation) local result old new = new ≡ old
AsksFor here message (Ask incarnation) local result old new = new ≡ old
AsksFor here message (Got incarnation place) local result old new = new ≡ old

-- .. by what becomes of the message: one that is dropped asks none
abbrev pub AsksAs : {X E : Type 0} → Arrival → Given → Message → Local → Result X E → Cache → Cache → Type 0
AsksAs Dropped here message local result old new = new ≡ old
AsksAs Counted here message local result old new = AsksFor here message message.body local result old new
AsksAs Taken here message local result old new = AsksFor here message message.body local result old new

-- .. and where a message comes
abbrev pub AsksAt : {X E : Type 0} → Given → Message → Local → Result X E → Cache → Cache → Type 0
AsksAt here message local result old new =
    AsksAs (arrival (here_of here) message local) here message local result old new

-- ---- why it stops

-- .. where it does what the message is for
abbrev pub StopsAt : (refused : List (List ℕ)) → Given → Message → Body → Site → Fault → Type 0
StopsAt refused here message (Get operation) site fault =
    StopsReacting here.tenant.now (answer_get (here_of here) (peer message.from message.incarnation) operation)
    site fault
StopsAt refused here message (Answer operation incarnation items) site fault =
    StopsAnswering refused here operation message.epoch (record { from = message.from; items = items })
    (local_of here.tenant.now site) fault
StopsAt refused here message (Put operation items) site fault =
    StopsPutting refused here (peer message.from message.incarnation) operation items site fault
StopsAt refused here message (Ack operation incarnation) site fault =
    StopsReacting here.tenant.now (acked operation message.epoch message.from) site fault
StopsAt refused here message (Ask incarnation) site fault =
    StopsReacting here.tenant.now (answer_ask (here_of here) (peer message.from incarnation)) site fault
StopsAt refused here message (State incarnation place is_last items) site fault =
    StopsSettling refused here (peer message.from message.incarnation) place is_last items site fault
StopsAt refused here message (Got incarnation place) site fault =
    StopsReacting here.tenant.now (take_got (here_of here) (peer message.from message.incarnation) place) site fault

-- .. where it asks others behind that: a count would have passed the greatest, by the decision that was made
abbrev pub StopsAsking : (before after : List (List ℕ)) → Given → Message → Site → Fault → Type 0
StopsAsking before after here message site OutOfMemory = Unit {0}
StopsAsking before after here message site CountsExhausted =
    (decision : Decision) × (IsMade before after here message (local_of here.tenant.now site) decision
    × ((arrive (λ _ _ _ _. decision) (here_of here) message (local_of here.tenant.now site)).fits ≡ false))
StopsAsking before after here message site PatternNotBuilt = ⊥
StopsAsking before after here message site StoreRefused = ⊥

-- .. by what becomes of the message: one that is dropped stops nothing, and others are asked only behind one that is
-- taken
abbrev pub StopsAs : Arrival → (before after : List (List ℕ)) → Given → Message → Site → Fault → Type 0
StopsAs Dropped before after here message site fault = ⊥
StopsAs Counted before after here message site fault = StopsAt after here message message.body site fault
StopsAs Taken before after here message site fault =
    StopsAt after here message message.body site fault ⊎ StopsAsking before after here message site fault

-- .. at a message that comes
abbrev pub StopsArriving : (before after : List (List ℕ)) → Given → Message → Site → Fault → Type 0
StopsArriving before after here message site fault =
    StopsAs (arrival (here_of here) message (local_of here.tenant.now site)) before after here message site fault

-- ---- items that it brings

abbrev pub brought_by : Body → List Item
brought_by (Put operation items) = items
brought_by (State incarnation place is_last items) = items
brought_by (Get operation) = []
brought_by (Answer operation incarnation items) = []
brought_by (Ack operation incarnation) = []
brought_by (Ask incarnation) = []
brought_by (Got incarnation place) = []

-- the items that a message has for a replica to hold, where it is of a kind that has any
abbrev pub brought_in : Body → Option (List Item)
brought_in (Put operation items) = Some items
brought_in (State incarnation place is_last items) = Some items
brought_in (Get operation) = None
brought_in (Answer operation incarnation items) = None
brought_in (Ack operation incarnation) = None
brought_in (Ask incarnation) = None
brought_in (Got incarnation place) = None

-- .. by what becomes of it: only one that is taken brings them
abbrev pub brought_as : Arrival → Body → Option (List Item)
brought_as Taken body = brought_in body
brought_as Dropped body = None
brought_as Counted body = None

-- .. at an instance that has this of the tenant
abbrev pub brought_at : Here → Message → Local → Option (List Item)
brought_at here message local = brought_as (arrival here message local) message.body

abbrev pub is_plain : Body → Bool
is_plain (Put operation items) = false
is_plain (State incarnation place is_last items) = false
is_plain (Get operation) = true
is_plain (Answer operation incarnation items) = true
is_plain (Ack operation incarnation) = true
is_plain (Ask incarnation) = true
is_plain (Got incarnation place) = true

-- ---- what it leaves in the store

-- what an instance has of each tenant where these items of one are accepted at a moment, if there are any
abbrev pub with_brought : Option (List Item) → (tenant : List ℕ) → (moment : ℕ) → (List ℕ → NodeLocal) → List ℕ
    → NodeLocal
with_brought None tenant moment locals t = locals t
with_brought (Some items) tenant moment locals t = accepted_for tenant moment items t (locals t)

-- there are any, and no store takes them
abbrev pub IsRejected : (Rejects : List ℕ → List Item → Type 0) → (tenant : List ℕ) → Option (List Item) → Type 0
IsRejected Rejects tenant None = ⊥
IsRejected Rejects tenant (Some items) = Rejects tenant items

-- what a call leaves there that accepts these items, if there are any: where there are none, the rows of before
abbrev pub LeavesBrought : (Rejects : List ℕ → List Item → Type 0) → Option (List Item) → (tenant : List ℕ)
    → (moment : ℕ) → (before : List ℕ → NodeLocal) → Option Fault → (old new : Medium) → List (List ℕ × Item)
    → Type 0
LeavesBrought Rejects brought tenant moment before fault old new pairs =
    LeavesStore before (with_brought brought tenant moment before) (IsRejected Rejects tenant brought)
    fault old new pairs
