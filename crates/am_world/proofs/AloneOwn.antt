-- What an instance says of a tenant: each message is the tenant's.
use Rattle.std.proofs.Common.{◌≡◌, ℕ, ◌+◌, Bool, true, false, ◌&&◌, not, All, List, [], ◌∷◌, length, Option, Some, None}
use Rattle.std.proofs.Common.{is_none, if◌then◌else◌, refl}
use Rattle.std.specs.Prelude.{codes, ◌==◌}
use Rattle.std.specs.List.{filter_map}
use Rattle.std.proofs.lemmas.List.Elements.{All-append, All-cons, All-nil}
use Rattle.am_instance.specs.Node.{Keep, Local as ReplicaLocal, Notify, Reaction as ReplicaReaction}
use Rattle.am_instance.specs.Node.{Records as ReplicaRecords, Replies as ReplicaReplies, Said as ReplicaSaid, Telling}
use Rattle.am_instance.specs.Node.{Tells as ReplicaTells, group_in, members_but, sent_among, tellings}
use Rattle.am_cluster.specs.Deciding.{Decision}
use Rattle.am_context.specs.declared.context.Context.{Context as NodeContext}
use Rattle.am_current.specs.Current.{configuration_in}
use Rattle.am_http.specs.Replies.{reply}
use Rattle.am_http.specs.declared.request.Request.{Request}
use Rattle.am_item.specs.declared.entry.EntryKey.{EntryKey}
use Rattle.am_item.specs.declared.item.Item.{Item}
use Rattle.am_labels.specs.declared.Label.{Label}
use Rattle.am_members.specs.declared.group.Group.{Group}
use Rattle.am_instance.specs.Node.{notified as notified_by_node, recorded as recorded_by_node}
use Rattle.am_instance.specs.Node.{retried as retried_by_node}
use Rattle.am_outlet.specs.Attempts.{after_outcome, outcome_of}
use Rattle.am_outlet.specs.declared.outcome.Outcome.{Outcome}
use Rattle.am_outlet.specs.declared.outcome.Outcome.TheVariants.{NotOpen, Delivered, Again, GivenUp}
use Rattle.am_ring.specs.Instances.{is_among}
use Rattle.am_timer.specs.Timer.{Key}
use Rattle.am_timer.specs.declared.key.TimerKey.TheVariants.{Operation as OperationKey, Group as GroupKey}
use Rattle.am_timer.specs.declared.key.TimerKey.TheVariants.{Retry as RetryKey, Push as PushKey}
use Rattle.am_transfer.specs.Peers.{Peer, at_number, peer}
use Rattle.am_transfer.specs.Pieces.{SentList, pieces_to_send, reach_of}
use Rattle.am_transfer.specs.Settling.{Push, Settling, lacking, list_for as sent_list_for, settled_by, spans_from}
use Rattle.am_transfer.specs.Settling.{with_list, with_push, with_span}
use Rattle.am_cluster.specs.Accepting.{accepted}
use Rattle.am_cluster.specs.Arriving.{Arrival, Counted, Dropped, Taken, answer_get, arrival, arrive, arrive_as, does}
use Rattle.am_cluster.specs.Arriving.{take_put}
use Rattle.am_cluster.specs.Delivery.{concluded, entry_of, outcome, recorded, told}
use Rattle.am_cluster.specs.Flushing.{begun, flushed}
use Rattle.am_cluster.specs.Here.{Here, is_replica_here, others, replica_here}
use Rattle.am_cluster.specs.Local.{Local, is_settled, with_settling}
use Rattle.am_cluster.specs.Messages.{Ack, Answer, Ask, Body, Get, Got, Message, Put, State}
use Rattle.am_cluster.specs.Operating.{Decide, ack_by, acked, answer_by, answered, begin, carry_out, finish}
use Rattle.am_cluster.specs.Operating.{list_for, operation_for, reply_for, stamp, start, timed_out}
use Rattle.am_cluster.specs.Operating.{unavailable, wait_with}
use Rattle.am_cluster.specs.Operations.{Answered, Operation, operation_at, operation_of}
use Rattle.am_cluster.specs.Plans.{by_replica, replica_local, said_by}
use Rattle.am_cluster.specs.Reactions.{Reaction, Replies, Said, Sends, Tells, each, only_if, stays, where_some}
use Rattle.am_cluster.specs.Reactions.{◌>>◌}
use Rattle.am_cluster.specs.Retiring.{retired}
use Rattle.am_cluster.specs.Sending.{message_to, send, send_all, send_in}
use Rattle.am_cluster.specs.Ticking.{due_keys, handled, is_flush_due, muted_of, send_again, ticked}
use Rattle.am_cluster.specs.Transfers.{answer_ask, ask, asked, asks_first, push, send_piece, send_state, take_got}
use Rattle.am_cluster.specs.Transfers.{take_state}

-- ---- one reaction

-- what is said is no message of another tenant
abbrev pub IsOf : (t : List ℕ) → Said → Type 0
IsOf t (Replies connection bytes) = Unit {0}
IsOf t (Sends message) = message.tenant ≡ t
IsOf t (Tells sending) = Unit {0}

abbrev pub AreOf : (t : List ℕ) → List Said → Type 0
AreOf t said = All (IsOf t) said

-- .. whatever it has of the tenant
abbrev pub SaysOwn : Here → (Local → Reaction) → Type 0
SaysOwn here f = (l : Local) → AreOf here.tenant (f l).said

none_own : (here : Here) → AreOf here.tenant []
none_own here = All-nil (IsOf here.tenant)

pub stays_own : (here : Here) → SaysOwn here stays
stays_own here l = none_own here

pub seq : (here : Here) (f g : Local → Reaction) → SaysOwn here f → SaysOwn here g → SaysOwn here (f >> g)
seq here f g a b l = All-append (IsOf here.tenant) (f l).said (g (f l).local).said (a l) (b (f l).local)

pub each_own : {A : Type 0} (here : Here) (f : A → Local → Reaction) (xs : List A) → ((x : A) → SaysOwn here (f x))
    → SaysOwn here (each f xs)
each_own here f [] a l = none_own here
each_own here f (x ∷ xs) a l = seq here (f x) (each f xs) (a x) (each_own here f xs a) l

pub chosen_own : (here : Here) (b : Bool) (f g : Local → Reaction) → SaysOwn here f → SaysOwn here g
    → SaysOwn here (if b then f else g)
chosen_own here true f g a c l = a l
chosen_own here false f g a c l = c l

pub only_if_own : (here : Here) (b : Bool) (f : Local → Reaction) → SaysOwn here f → SaysOwn here (only_if b f)
only_if_own here true f a l = a l
only_if_own here false f a l = none_own here

where_some_own : {A : Type 0} (here : Here) (f : A → Local → Reaction) (o : Option A) → ((x : A) → SaysOwn here (f x))
    → SaysOwn here (where_some f o)
where_some_own here f None a l = none_own here
where_some_own here f (Some x) a l = a x l

-- ---- sending

send_in_own : (epoch : ℕ) (here : Here) (to : ℕ) (body : Body) → SaysOwn here (send_in epoch here to body)
unfolding send_in
send_in_own epoch here to body l =
    All-cons (IsOf here.tenant) (Sends (message_to here epoch to (l.ledger.messages + 1) body)) [] refl (none_own here)

send_all_own : (epoch : ℕ) (here : Here) (to : List ℕ) (body : Body) → SaysOwn here (send_all epoch here to body)
send_all_own epoch here to body l =
    each_own here (λ i. send_in epoch here i body) to (λ i. send_in_own epoch here i body) l

-- ---- notices

own_by : (t : List ℕ) (said : List ReplicaSaid) → AreOf t (filter_map said_by said)
own_by t [] = All-nil (IsOf t)
own_by t (ReplicaReplies c b ∷ said) = All-cons (IsOf t) (Replies c b) (filter_map said_by said) tt (own_by t said)
own_by t (ReplicaRecords item ∷ said) = own_by t said
own_by t (ReplicaTells s ∷ said) = All-cons (IsOf t) (Tells s) (filter_map said_by said) tt (own_by t said)

by_replica_own : (f : NodeContext → ReplicaLocal → ReplicaReaction) (here : Here) → SaysOwn here (by_replica f here)
by_replica_own f here l = own_by here.tenant (f (replica_here here) (replica_local here l)).said

recorded_own : (here : Here) (key : EntryKey) (firing resolved : List (List Label)) (span : ℕ)
    → SaysOwn here (recorded here key firing resolved span)
unfolding recorded
recorded_own here key firing resolved span l =
    seq here (by_replica (λ h. recorded_by_node h key firing resolved span) here)
    (send_all here.epoch here (others here) (Put 0 (entry_of here key firing resolved span l ∷ [])))
    (by_replica_own (λ h. recorded_by_node h key firing resolved span) here)
    (send_all_own here.epoch here (others here) (Put 0 (entry_of here key firing resolved span l ∷ []))) l

told_own : (here : Here) (telling : Telling) → SaysOwn here (told here telling)
told_own here (Notify notice) = by_replica_own (λ h. notified_by_node h notice) here
told_own here (Keep key span) = recorded_own here key [] [] span

concluded_own : (here : Here) (o : Outcome) → SaysOwn here (concluded here o)
concluded_own here NotOpen = stays_own here
concluded_own here (Delivered notice) = recorded_own here notice.key notice.firing notice.resolved notice.span
concluded_own here (Again due) = stays_own here
concluded_own here GivenUp = stays_own here

pub outcome_own : (here : Here) (number tries : ℕ) (status : Option ℕ) → SaysOwn here (outcome here number tries status)
unfolding outcome
outcome_own here number tries status l =
    concluded_own here (outcome_of number tries here.moment status l.desk.open_ones)
    (record l { desk = after_outcome number tries here.moment status l.desk })

flushed_own : (here : Here) (muted : List (List Label)) (group : Group) → SaysOwn here (flushed here muted group)
unfolding flushed
flushed_own here muted group l =
    each_own here (told here)
    (tellings (configuration_in l.held) group (sent_among l.held) (members_but muted group (replica_local here l))
    here.moment)
    (told_own here) (begun here group l)

-- ---- operations

pub finish_own : (here : Here) (bytes : List ℕ) (operation : Operation) → SaysOwn here (finish bytes operation)
unfolding finish
finish_own here bytes operation l =
    All-cons (IsOf here.tenant) (Replies operation.connection bytes) [] tt (none_own here)

pub start_own : (here : Here) (connection : ℕ) (request : Request) → SaysOwn here (start here connection request)
unfolding start
start_own here connection request l =
    let operation : Operation = operation_for here connection request (l.ledger.operations + 1) in
    seq here (begin operation) (send_all here.epoch here here.three (Get operation.number)) (λ k. none_own here)
    (send_all_own here.epoch here here.three (Get operation.number)) l

carried_own : (here : Here) (operation : Operation) (decision : Decision)
    → SaysOwn here (carry_out here operation decision)
unfolding carry_out
carried_own here operation decision l =
    let bytes : List ℕ = reply decision.status decision.body in
    let put : Local → Reaction = send_all operation.epoch here here.three (Put operation.number decision.items) in
    seq here (stamp decision)
    (if length decision.items == 0 then finish bytes operation else (wait_with bytes operation >> put))
    (λ k. none_own here)
    (chosen_own here (length decision.items == 0) (finish bytes operation) (wait_with bytes operation >> put)
    (finish_own here bytes operation)
    (seq here (wait_with bytes operation) put (λ k. none_own here)
    (send_all_own operation.epoch here here.three (Put operation.number decision.items)))) l

answer_by_own : (decide : Decide) (here : Here) (operation : Operation) (answer : Answered) (list : Option (List Item))
    → SaysOwn here (answer_by decide here operation answer list)
answer_by_own decide here operation answer None l = none_own here
answer_by_own decide here operation answer (Some list) l =
    carried_own here operation (decide here operation.request list l) l

answered_own : (decide : Decide) (here : Here) (number epoch : ℕ) (answer : Answered)
    → SaysOwn here (answered decide here number epoch answer)
unfolding answered
answered_own decide here number epoch answer l =
    where_some_own here (λ (o : Operation). answer_by decide here o answer (list_for o.stage answer))
    (operation_of number epoch l.operations)
    (λ o. answer_by_own decide here o answer (list_for o.stage answer)) l

ack_by_own : (here : Here) (operation : Operation) (from : ℕ) (bytes : Option (List ℕ))
    → SaysOwn here (ack_by operation from bytes)
ack_by_own here operation from None l = none_own here
ack_by_own here operation from (Some bytes) l = finish_own here bytes operation l

acked_own : (here : Here) (number epoch from : ℕ) → SaysOwn here (acked number epoch from)
unfolding acked
acked_own here number epoch from l =
    where_some_own here (λ (o : Operation). ack_by o from (reply_for o.stage from))
    (operation_of number epoch l.operations) (λ o. ack_by_own here o from (reply_for o.stage from)) l

-- ---- settling

ask_own : (here : Here) (to : ℕ) → SaysOwn here (ask here to)
unfolding ask
ask_own here to l =
    send_in_own here.epoch here to (Ask here.incarnation)
    (with_settling (record (l.settling) { asked_at = Some here.moment }) l)

pub asks_first_own : (here : Here) → SaysOwn here (asks_first here)
unfolding asks_first
asks_first_own here l =
    only_if_own here (is_replica_here here && (not (is_settled here l) && is_none l.settling.asked_at))
    (each (ask here) (lacking (others here) l.settling))
    (each_own here (ask here) (lacking (others here) l.settling) (ask_own here)) l

send_state_own : (here : Here) (is_asked : Bool) (receiver : Peer) → SaysOwn here (send_state here is_asked receiver)
unfolding send_state
send_state_own here is_asked receiver l =
    let list : SentList = sent_list_for receiver l.held l.settling in
    each_own here (send_piece here receiver) (pieces_to_send is_asked list)
    (λ p. send_in_own here.epoch here receiver.instance (State receiver.incarnation p.place p.is_last p.items))
    (with_settling (with_list receiver list l.settling) l)

pub push_own : (here : Here) (receiver : Peer) → SaysOwn here (push here receiver)
unfolding push
push_own here receiver l =
    send_state_own here false receiver
    (with_settling (with_push receiver.instance receiver.incarnation here.moment l.settling) l)

take_state_own : (here : Here) (sender : Peer) (place : ℕ) (is_last : Bool) (items : List Item)
    → SaysOwn here (take_state here sender place is_last items)
unfolding take_state
take_state_own here sender place is_last items l =
    let s : Settling = with_span sender place (record { count = length items; is_last = is_last }) l.settling in
    send_in_own here.epoch here sender.instance (Got sender.incarnation (reach_of (spans_from sender s)).place)
    (with_settling (settled_by (others here) s) (accepted here.moment items l))

answer_ask_own : (here : Here) (asker : Peer) → SaysOwn here (answer_ask here asker)
unfolding answer_ask
answer_ask_own here asker l =
    only_if_own here (is_settled here l) (send_state here true asker) (send_state_own here true asker) l

take_got_own : (here : Here) (receiver : Peer) (place : ℕ) → SaysOwn here (take_got here receiver place)
unfolding take_got
take_got_own here receiver place l = none_own here

-- ---- ticks

send_again_own : (here : Here) (to : ℕ) (p : Option Push) → SaysOwn here (send_again here to p)
send_again_own here to (Some p) l = push_own here (peer to p.incarnation) l
send_again_own here to None l = only_if_own here (is_among to (asked here l)) (ask here to) (ask_own here to) l

handled_own : (here : Here) (muted : List (List Label)) (key : Key) → SaysOwn here (handled here muted key)
unfolding handled
handled_own here muted (OperationKey number) l =
    where_some_own here timed_out (operation_at number l.operations) (finish_own here (unavailable (codes "Q1"))) l
handled_own here muted (GroupKey key) l =
    only_if_own here (is_flush_due here key l) (flushed here muted (group_in key))
    (flushed_own here muted (group_in key)) l
handled_own here muted (RetryKey number) l = by_replica_own (λ h. retried_by_node h number) here l
handled_own here muted (PushKey to) l = send_again_own here to (at_number to l.settling.pushes) l

pub ticked_own : (here : Here) → SaysOwn here (ticked here)
unfolding ticked
ticked_own here l =
    each_own here (handled here (muted_of here (retired here.moment l))) (due_keys here (retired here.moment l))
    (handled_own here (muted_of here (retired here.moment l))) (retired here.moment l)

-- ---- messages

answer_get_own : (here : Here) (asker : Peer) (operation : ℕ) → SaysOwn here (answer_get here asker operation)
answer_get_own here asker operation l =
    only_if_own here (is_settled here l) (send here asker.instance (Answer operation asker.incarnation l.held))
    (send_in_own here.epoch here asker.instance (Answer operation asker.incarnation l.held)) l

take_put_own : (here : Here) (sender : Peer) (operation : ℕ) (items : List Item)
    → SaysOwn here (take_put here sender operation items)
take_put_own here sender operation items l =
    only_if_own here (not (operation == 0)) (send here sender.instance (Ack operation sender.incarnation))
    (send_in_own here.epoch here sender.instance (Ack operation sender.incarnation)) (accepted here.moment items l)

does_own : (decide : Decide) (here : Here) (message : Message) (body : Body)
    → SaysOwn here (does decide here message body)
does_own decide here message (Get operation) = answer_get_own here (peer message.from message.incarnation) operation
does_own decide here message (Answer operation incarnation items) =
    answered_own decide here operation message.epoch (record { from = message.from; items = items })
does_own decide here message (Put operation items) =
    take_put_own here (peer message.from message.incarnation) operation items
does_own decide here message (Ack operation incarnation) = acked_own here operation message.epoch message.from
does_own decide here message (Ask incarnation) = answer_ask_own here (peer message.from incarnation)
does_own decide here message (State incarnation place is_last items) =
    take_state_own here (peer message.from message.incarnation) place is_last items
does_own decide here message (Got incarnation place) =
    take_got_own here (peer message.from message.incarnation) place

arrive_as_own : (a : Arrival) (decide : Decide) (here : Here) (message : Message)
    → SaysOwn here (arrive_as a decide here message)
arrive_as_own Dropped decide here message = stays_own here
arrive_as_own Counted decide here message = does_own decide here message message.body
arrive_as_own Taken decide here message =
    seq here (does decide here message message.body) (asks_first here) (does_own decide here message message.body)
    (asks_first_own here)

pub arrive_own : (decide : Decide) (here : Here) (message : Message) → SaysOwn here (arrive decide here message)
unfolding arrive
arrive_own decide here message l = arrive_as_own (arrival here message l) decide here message l
