-- At which happenings a request is decided, and a write acknowledged.
use Rattle.std.specs.Prelude.{ℕ, ◌&&◌, ◌==◌, List, [], Option, Some, None, option_map, option_and_then, if◌then◌else◌}
use Rattle.std.specs.List.{flat_map}
pub use Rattle.am_api.specs.Replied.{Decision}
use Rattle.am_item.specs.declared.item.Item.{Item}
use Rattle.am_cluster.specs.Arriving.{Arrival, Counted, Dropped, Taken, arrival}
use Rattle.am_cluster.specs.Courses.{posted_in}
use Rattle.am_cluster.specs.Happening.{Happening, Asked, Changed, Delivered, Forced, Limited, Lost, Ticked, Tried}
use Rattle.am_cluster.specs.Here.{Here}
use Rattle.am_cluster.specs.Local.{Local}
use Rattle.am_cluster.specs.Messages.{Ack, Answer, Ask, Body, Get, Got, Message, Put, State}
use Rattle.am_cluster.specs.Moments.{effective, is_too_late}
use Rattle.am_cluster.specs.Operating.{decision_on, list_for, reply_for}
use Rattle.am_cluster.specs.Operations.{Operation, operation_of}
use Rattle.am_cluster.specs.PrivateCluster.{PrivateCluster, here_at}
use Rattle.am_cluster.specs.Sent.{Sent}

-- ---- what reaches an instance

-- a message that does something: what the instance that it reaches goes by, and has
pub record Reached : Type 0 where
  pub here : Here
  pub local : Local
  pub message : Message

abbrev pub unless_dropped : Arrival → Reached → Option Reached
unless_dropped Dropped reached = None
unless_dropped Counted reached = Some reached
unless_dropped Taken reached = Some reached

-- the message, where its receiver is up and doesn't drop it
abbrev pub reached_by : PrivateCluster → (moment : ℕ) → Message → Option Reached
reached_by p moment message =
    if p.roster.up message.to
    then unless_dropped (arrival (here_at p moment message.to) message (p.at message.to))
    (record { here = here_at p moment message.to; local = p.at message.to; message = message })
    else None

abbrev pub reached_at : PrivateCluster → Happening → Option Reached
reached_at p (Delivered from k to count moment) =
    if is_too_late moment then None
    else option_and_then (reached_by p (effective moment p.clock)) (posted_in p from k to count)
reached_at p (Asked connection i moment request) = None
reached_at p (Limited limits) = None
reached_at p (Ticked moment) = None
reached_at p (Tried i k number tries moment status) = None
reached_at p (Lost from k to count) = None
reached_at p (Changed event) = None
reached_at p Forced = None

-- ---- decisions

-- an operation that is decided, on this list, and what its instance goes by and has
pub record Deciding : Type 0 where
  pub here : Here
  pub local : Local
  pub operation : Operation
  pub list : List Item

abbrev pub deciding_on : Reached → Operation → List Item → Deciding
deciding_on r operation list = record { here = r.here; local = r.local; operation = operation; list = list }

abbrev pub deciding_by : Reached → Body → Option Deciding
deciding_by r (Answer number incarnation items) =
    option_and_then (λ (o : Operation). option_map (deciding_on r o)
    (list_for o.stage (record { from = r.message.from; items = items })))
    (operation_of number r.message.epoch r.local.operations)
deciding_by r (Get operation) = None
deciding_by r (Put operation items) = None
deciding_by r (Ack operation incarnation) = None
deciding_by r (Ask incarnation) = None
deciding_by r (State incarnation place is_last items) = None
deciding_by r (Got incarnation place) = None

-- the operation that is decided by what happens, where one is
unfoldable pub deciding_at : PrivateCluster → Happening → Option Deciding
deciding_at p h = option_and_then (λ (r : Reached). deciding_by r r.message.body) (reached_at p h)

-- what is decided
abbrev pub decision_of : (service_key : List ℕ) → Deciding → Decision
decision_of service_key d = decision_on service_key d.here d.operation.request d.list d.local

-- ---- acknowledged writes

-- an operation that is replied to at its second Ack, and the instance where it is open
pub record Acknowledged : Type 0 where
  pub here : Here
  pub operation : Operation

abbrev pub acknowledged_by : Reached → Body → Option Acknowledged
acknowledged_by r (Ack number incarnation) =
    option_and_then (λ (o : Operation). option_map (λ _. record { here = r.here; operation = o })
    (reply_for o.stage r.message.from))
    (operation_of number r.message.epoch r.local.operations)
acknowledged_by r (Get operation) = None
acknowledged_by r (Answer operation incarnation items) = None
acknowledged_by r (Put operation items) = None
acknowledged_by r (Ask incarnation) = None
acknowledged_by r (State incarnation place is_last items) = None
acknowledged_by r (Got incarnation place) = None

-- the operation whose write is acknowledged by what happens, where one is
unfoldable pub acknowledged_at : PrivateCluster → Happening → Option Acknowledged
acknowledged_at p h = option_and_then (λ (r : Reached). acknowledged_by r r.message.body) (reached_at p h)

-- the items that an operation wrote, as its Puts have them
abbrev pub items_put : (number : ℕ) → Body → List Item
items_put number (Put operation items) = if operation == number then items else []
items_put number (Get operation) = []
items_put number (Answer operation incarnation items) = []
items_put number (Ack operation incarnation) = []
items_put number (Ask incarnation) = []
items_put number (State incarnation place is_last items) = []
items_put number (Got incarnation place) = []

abbrev pub items_sent : (instance incarnation number : ℕ) → Sent → List Item
items_sent i k number sent =
    if sent.message.from == i && sent.message.incarnation == k then items_put number sent.message.body else []

abbrev pub items_of : List Sent → Acknowledged → List Item
items_of sent a = flat_map (items_sent a.here.instance a.here.incarnation a.operation.number) sent

-- the items whose write is acknowledged by what happens
abbrev pub written_by : List Sent → Option Acknowledged → List Item
written_by sent None = []
written_by sent (Some a) = items_of sent a

abbrev pub written_at : PrivateCluster → Happening → List Item
written_at p h = written_by p.sent (acknowledged_at p h)
