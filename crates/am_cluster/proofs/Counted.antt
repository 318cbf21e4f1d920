-- Each message that an instance sends has the next count there, and is of its number and incarnation.
use Rattle.std.proofs.Common.{◌≡◌, ℕ, ◌+◌, Bool, true, false, ◌&&◌, not, List, [], ◌∷◌, ◌++◌, length, Option, Some, None, is_none, if◌then◌else◌, refl, sym, ap, subst}
use Rattle.std.specs.List.{filter_map}
use Rattle.am_http.specs.declared.request.Request.{Request}
use Rattle.am_api.specs.Replied.{Decision}
use Rattle.am_http.specs.Replies.{reply}
use Rattle.am_item.specs.declared.entry.EntryKey.{EntryKey}
use Rattle.am_item.specs.declared.item.Item.{Item}
use Rattle.am_labels.specs.declared.Label.{Label}
use Rattle.am_members.specs.declared.group.Group.{Group}
use Rattle.am_current.specs.Current.{configuration_in}
use Rattle.am_outlet.specs.Attempts.{after_outcome, outcome_of}
use Rattle.am_node.specs.Flushing.{members_but}
use Rattle.am_node.specs.Notices.{Keep, Notify, Telling, group_in, sent_among, tellings}
use Rattle.std.specs.Prelude.{codes, ◌==◌}
use Rattle.am_outlet.specs.declared.outcome.Outcome.{Outcome}
use Rattle.am_outlet.specs.declared.outcome.Outcome.TheVariants.{NotOpen, Delivered, Again, GivenUp}
use Rattle.am_node.specs.Delivery as replica
use Rattle.am_node.specs.Local.{Local as ReplicaLocal, Reaction as ReplicaReaction, Said as ReplicaSaid, Records as ReplicaRecords, Replies as ReplicaReplies, Tells as ReplicaTells}
use Rattle.am_context.specs.declared.context.Context.{Context as NodeContext}
use Rattle.am_ring.specs.Instances.{is_among}
use Rattle.am_timer.specs.Timer.{Key}
use Rattle.am_timer.specs.declared.key.TimerKey.TheVariants.{Operation as OperationKey, Group as GroupKey, Retry as RetryKey, Push as PushKey}
use Rattle.am_cluster.specs.Accepting.{accepted}
use Rattle.am_cluster.specs.Arriving.{Arrival, Counted as IsCountedOnly, Dropped, Taken, answer_get, arrival, arrive, arrive_as, does, take_put}
use Rattle.am_cluster.specs.Courses.{at_restart}
use Rattle.am_cluster.specs.Delivery.{concluded, entry_of, outcome, recorded, told}
use Rattle.am_cluster.specs.Flushing.{begun, flushed}
use Rattle.am_cluster.specs.Here.{Here, is_replica_here, others, peer_now, replica_here}
use Rattle.am_cluster.specs.Local.{Local, holds_any, is_settled, with_settling}
use Rattle.am_cluster.specs.Messages.{Ack, Answer, Ask, Body, Get, Got, Message, Put, State}
use Rattle.am_cluster.specs.Operating.{Decide, ack_by, acked, answer_by, answered, begin, carry_out, finish, first_ack, first_answer, list_for, operation_for, replicas_changed, reply_for, stamp, start, timed_out, unavailable, wait_with}
use Rattle.am_cluster.specs.Operations.{Answered, Decided, Operation, Stage, Undecided, operation_at, operation_of}
use Rattle.am_transfer.specs.Peers.{Peer, at_number, peer}
use Rattle.am_transfer.specs.Pieces.{SentList, pieces_to_send}
use Rattle.am_cluster.specs.Plans.{by_replica, replica_local, said_by}
use Rattle.am_cluster.specs.Reactions.{Reaction, Replies, Said, Sends, Tells, each, messages_in, only_if, stays, where_some, ◌>>◌}
use Rattle.am_cluster.specs.Retiring.{retired}
use Rattle.am_cluster.specs.RingChanges.{are_same, dropped, end_push, go_on, go_on_or_drop, just_opened, other_restarted, push_if_settled, push_or_ask, ring_learned}
use Rattle.am_cluster.specs.Sending.{send, send_all, send_in}
use Rattle.am_transfer.specs.Settling.{Push, in_new_epoch, lacking, list_for as sent_list_for, now_settled, to_push, with_list, with_push}
use Rattle.am_cluster.specs.Ticking.{due_keys, handled, is_flush_due, muted_of, send_again, ticked}
use Rattle.am_cluster.specs.Transfers.{answer_ask, ask, asked, asks_first, begin_push, forced, push, send_piece, send_state, take_got, take_state}

-- ---- counts

-- messages of an instance in one incarnation, one count after the other, from the one behind a count on up to another
abbrev pub Counts : (i k from : ℕ) → List Message → (to : ℕ) → Type 0
Counts i k from [] to = from ≡ to
Counts i k from (m ∷ ms) to = (m.from ≡ i) × (m.incarnation ≡ k) × (m.count ≡ from + 1) × Counts i k (from + 1) ms to

Counts-append : (i k a b c : ℕ) (ms ns : List Message) → Counts i k a ms b → Counts i k b ns c → Counts i k a (ms ++ ns) c
Counts-append i k a b c [] ns e d = subst (λ n. Counts i k n ns c) (sym e) d
Counts-append i k a b c (m ∷ ms) ns e d = (e.0, e.1, e.2, Counts-append i k (a + 1) b c ms ns e.3 d)

pub messages-append : (xs ys : List Said) → messages_in (xs ++ ys) ≡ messages_in xs ++ messages_in ys
messages-append [] ys = refl
messages-append (Replies c b ∷ xs) ys = messages-append xs ys
messages-append (Sends m ∷ xs) ys = ap (λ l. m ∷ l) (messages-append xs ys)
messages-append (Tells s ∷ xs) ys = messages-append xs ys

-- ---- one reaction

abbrev pub IsCounted : Here → Local → Reaction → Type 0
IsCounted here l r = Counts here.instance here.incarnation l.ledger.messages (messages_in r.said) r.local.ledger.messages

abbrev pub AreCounted : Here → (Local → Reaction) → Type 0
AreCounted here f = (l : Local) → IsCounted here l (f l)

stays_counted : (here : Here) → AreCounted here stays
stays_counted here l = refl

seq : (here : Here) (f g : Local → Reaction) → AreCounted here f → AreCounted here g → AreCounted here (f >> g)
seq here f g cf cg l =
    subst (λ ms. Counts here.instance here.incarnation l.ledger.messages ms (g (f l).local).local.ledger.messages)
    (sym (messages-append (f l).said (g (f l).local).said))
    (Counts-append here.instance here.incarnation l.ledger.messages (f l).local.ledger.messages
    (g (f l).local).local.ledger.messages (messages_in (f l).said) (messages_in (g (f l).local).said) (cf l) (cg (f l).local))

each_counted : {A : Type 0} (here : Here) (f : A → Local → Reaction) (xs : List A) → ((x : A) → AreCounted here (f x))
    → AreCounted here (each f xs)
each_counted here f [] c l = refl
each_counted here f (x ∷ xs) c l = seq here (f x) (each f xs) (c x) (each_counted here f xs c) l

if_counted : (here : Here) (t : Bool) (f g : Local → Reaction) → AreCounted here f → AreCounted here g
    → (l : Local) → IsCounted here l (if t then f l else g l)
if_counted here true f g cf cg l = cf l
if_counted here false f g cf cg l = cg l

chosen_counted : (here : Here) (t : Bool) (f g : Local → Reaction) → AreCounted here f → AreCounted here g
    → AreCounted here (if t then f else g)
chosen_counted here true f g cf cg l = cf l
chosen_counted here false f g cf cg l = cg l

only_if_counted : (here : Here) (t : Bool) (f : Local → Reaction) → AreCounted here f → AreCounted here (only_if t f)
only_if_counted here t f c l = if_counted here t f stays c (stays_counted here) l

where_some_counted : {A : Type 0} (here : Here) (f : A → Local → Reaction) (o : Option A) → ((x : A) → AreCounted here (f x))
    → AreCounted here (where_some f o)
where_some_counted here f None c l = refl
where_some_counted here f (Some x) c l = c x l

-- ---- sending

send_in_counted : (epoch : ℕ) (here : Here) (to : ℕ) (body : Body) → AreCounted here (send_in epoch here to body)
unfolding send_in
send_in_counted epoch here to body l = (refl, refl, refl, refl)

send_all_counted : (epoch : ℕ) (here : Here) (to : List ℕ) (body : Body) → AreCounted here (send_all epoch here to body)
send_all_counted epoch here to body = each_counted here (λ i. send_in epoch here i body) to (λ i. send_in_counted epoch here i body)

-- ---- notices

pub none_said : (said : List ReplicaSaid) → messages_in (filter_map said_by said) ≡ []
none_said [] = refl
none_said (ReplicaReplies c b ∷ said) = none_said said
none_said (ReplicaRecords item ∷ said) = none_said said
none_said (ReplicaTells s ∷ said) = none_said said

by_replica_counted : (f : NodeContext → ReplicaLocal → ReplicaReaction) (here : Here) → AreCounted here (by_replica f here)
by_replica_counted f here l =
    subst (λ ms. Counts here.instance here.incarnation l.ledger.messages ms l.ledger.messages)
    (sym (none_said (f (replica_here here) (replica_local here l)).said)) refl

recorded_counted : (here : Here) (key : EntryKey) (firing resolved : List (List Label)) (span : ℕ)
    → AreCounted here (recorded here key firing resolved span)
unfolding recorded
recorded_counted here key firing resolved span l =
    seq here (by_replica (λ h. replica.recorded h key firing resolved span) here)
    (send_all here.epoch here (others here) (Put 0 (entry_of here key firing resolved span l ∷ [])))
    (by_replica_counted (λ h. replica.recorded h key firing resolved span) here)
    (send_all_counted here.epoch here (others here) (Put 0 (entry_of here key firing resolved span l ∷ []))) l

told_counted : (here : Here) (telling : Telling) → AreCounted here (told here telling)
told_counted here (Notify notice) = by_replica_counted (λ h. replica.notified h notice) here
told_counted here (Keep key span) = recorded_counted here key [] [] span

concluded_counted : (here : Here) (o : Outcome) → AreCounted here (concluded here o)
concluded_counted here NotOpen = stays_counted here
concluded_counted here (Delivered notice) = recorded_counted here notice.key notice.firing notice.resolved notice.span
concluded_counted here (Again due) = stays_counted here
concluded_counted here GivenUp = stays_counted here

pub outcome_counted : (here : Here) (number tries : ℕ) (status : Option ℕ) → AreCounted here (outcome here number tries status)
unfolding outcome
outcome_counted here number tries status l =
    concluded_counted here (outcome_of number tries here.moment status l.desk.open_ones)
    (record l { desk = after_outcome number tries here.moment status l.desk })

flushed_counted : (here : Here) (muted : List (List Label)) (group : Group) → AreCounted here (flushed here muted group)
unfolding flushed
flushed_counted here muted group l =
    each_counted here (told here)
    (tellings (configuration_in l.held) group (sent_among l.held) (members_but muted group (replica_local here l)) here.moment)
    (told_counted here) (begun here group l)

-- ---- operations

finish_counted : (here : Here) (bytes : List ℕ) (operation : Operation) → AreCounted here (finish bytes operation)
unfolding finish
finish_counted here bytes operation l = refl

replicas_changed_counted : (here : Here) → AreCounted here replicas_changed
unfolding replicas_changed
replicas_changed_counted here l =
    each_counted here (finish (unavailable (codes "Q2"))) l.operations (finish_counted here (unavailable (codes "Q2"))) l

pub start_counted : (here : Here) (connection : ℕ) (request : Request) → AreCounted here (start here connection request)
unfolding start
start_counted here connection request l =
    let operation : Operation = operation_for here connection request (l.ledger.operations + 1) in
    seq here (begin operation) (send_all here.epoch here here.three (Get operation.number)) (λ k. refl)
    (send_all_counted here.epoch here here.three (Get operation.number)) l

carried_counted : (here : Here) (operation : Operation) (decision : Decision) → AreCounted here (carry_out here operation decision)
unfolding carry_out
carried_counted here operation decision l =
    let bytes : List ℕ = reply decision.status decision.body in
    let put : Local → Reaction = send_all operation.epoch here here.three (Put operation.number decision.items) in
    seq here (stamp decision) (if length decision.items == 0 then finish bytes operation else (wait_with bytes operation >> put))
    (λ k. refl)
    (chosen_counted here (length decision.items == 0) (finish bytes operation) (wait_with bytes operation >> put)
    (finish_counted here bytes operation)
    (seq here (wait_with bytes operation) put (λ k. refl)
    (send_all_counted operation.epoch here here.three (Put operation.number decision.items)))) l

first_answer_same : (operation : Operation) (stage : Stage) (answer : Answered) (l : Local)
    → l.ledger.messages ≡ (first_answer operation stage answer l).ledger.messages
first_answer_same operation (Undecided None) answer l = refl
first_answer_same operation (Undecided (Some first)) answer l = refl
first_answer_same operation (Decided reply first) answer l = refl

answer_by_counted : (decide : Decide) (here : Here) (operation : Operation) (answer : Answered) (list : Option (List Item))
    → AreCounted here (answer_by decide here operation answer list)
answer_by_counted decide here operation answer None l = first_answer_same operation operation.stage answer l
answer_by_counted decide here operation answer (Some list) l =
    carried_counted here operation (decide here operation.request list l) l

answered_counted : (decide : Decide) (here : Here) (number epoch : ℕ) (answer : Answered)
    → AreCounted here (answered decide here number epoch answer)
unfolding answered
answered_counted decide here number epoch answer l =
    where_some_counted here (λ (o : Operation). answer_by decide here o answer (list_for o.stage answer))
    (operation_of number epoch l.operations) (λ o. answer_by_counted decide here o answer (list_for o.stage answer)) l

first_ack_same : (operation : Operation) (stage : Stage) (from : ℕ) (l : Local)
    → l.ledger.messages ≡ (first_ack operation stage from l).ledger.messages
first_ack_same operation (Undecided first) from l = refl
first_ack_same operation (Decided reply None) from l = refl
first_ack_same operation (Decided reply (Some first)) from l = refl

ack_by_counted : (here : Here) (operation : Operation) (from : ℕ) (bytes : Option (List ℕ)) → AreCounted here (ack_by operation from bytes)
ack_by_counted here operation from None l = first_ack_same operation operation.stage from l
ack_by_counted here operation from (Some bytes) l = finish_counted here bytes operation l

acked_counted : (here : Here) (number epoch from : ℕ) → AreCounted here (acked number epoch from)
unfolding acked
acked_counted here number epoch from l =
    where_some_counted here (λ (o : Operation). ack_by o from (reply_for o.stage from))
    (operation_of number epoch l.operations) (λ o. ack_by_counted here o from (reply_for o.stage from)) l

-- ---- settling

ask_counted : (here : Here) (to : ℕ) → AreCounted here (ask here to)
unfolding ask
ask_counted here to l =
    send_in_counted here.epoch here to (Ask here.incarnation)
    (with_settling (record (l.settling) { asked_at = Some here.moment }) l)

asks_first_counted : (here : Here) → AreCounted here (asks_first here)
unfolding asks_first
asks_first_counted here l =
    only_if_counted here (is_replica_here here && (not (is_settled here l) && is_none l.settling.asked_at))
    (each (ask here) (lacking (others here) l.settling)) (each_counted here (ask here) (lacking (others here) l.settling) (ask_counted here)) l

send_state_counted : (here : Here) (is_asked : Bool) (receiver : Peer) → AreCounted here (send_state here is_asked receiver)
unfolding send_state
send_state_counted here is_asked receiver l =
    let list : SentList = sent_list_for receiver l.held l.settling in
    each_counted here (send_piece here receiver) (pieces_to_send is_asked list)
    (λ p. send_in_counted here.epoch here receiver.instance (State receiver.incarnation p.place p.is_last p.items))
    (with_settling (with_list receiver list l.settling) l)

push_counted : (here : Here) (receiver : Peer) → AreCounted here (push here receiver)
unfolding push
push_counted here receiver l =
    send_state_counted here false receiver
    (with_settling (with_push receiver.instance receiver.incarnation here.moment l.settling) l)

take_state_counted : (here : Here) (sender : Peer) (place : ℕ) (is_last : Bool) (items : List Item)
    → AreCounted here (take_state here sender place is_last items)
unfolding take_state accepted send_in
take_state_counted here sender place is_last items l = (refl, refl, refl, refl)

answer_ask_counted : (here : Here) (asker : Peer) → AreCounted here (answer_ask here asker)
unfolding answer_ask
answer_ask_counted here asker l =
    only_if_counted here (is_settled here l) (send_state here true asker) (send_state_counted here true asker) l

take_got_counted : (here : Here) (receiver : Peer) (place : ℕ) → AreCounted here (take_got here receiver place)
unfolding take_got
take_got_counted here receiver place l = refl

same_messages : (t : Bool) (k l : Local) → l.ledger.messages ≡ k.ledger.messages
    → l.ledger.messages ≡ (if t then k else l).ledger.messages
same_messages true k l e = e
same_messages false k l e = refl

pub forced_counted : (here : Here) → AreCounted here (forced here)
unfolding forced
forced_counted here l =
    same_messages (is_replica_here here && not (is_settled here l)) (with_settling (now_settled l.settling) l) l refl

-- ---- ticks

send_again_counted : (here : Here) (to : ℕ) (p : Option Push) → AreCounted here (send_again here to p)
send_again_counted here to (Some p) l = push_counted here (peer to p.incarnation) l
send_again_counted here to None l =
    only_if_counted here (is_among to (asked here l)) (ask here to) (ask_counted here to) l

handled_counted : (here : Here) (muted : List (List Label)) (key : Key) → AreCounted here (handled here muted key)
unfolding handled
handled_counted here muted (OperationKey number) l =
    where_some_counted here timed_out (operation_at number l.operations) (finish_counted here (unavailable (codes "Q1"))) l
handled_counted here muted (GroupKey key) l =
    only_if_counted here (is_flush_due here key l) (flushed here muted (group_in key)) (flushed_counted here muted (group_in key)) l
handled_counted here muted (RetryKey number) l = by_replica_counted (λ h. replica.retried h number) here l
handled_counted here muted (PushKey to) l = send_again_counted here to (at_number to l.settling.pushes) l

pub ticked_counted : (here : Here) → AreCounted here (ticked here)
unfolding ticked retired
ticked_counted here l =
    each_counted here (handled here (muted_of here (retired here.moment l))) (due_keys here (retired here.moment l))
    (handled_counted here (muted_of here (retired here.moment l))) (retired here.moment l)

-- ---- messages

answer_get_counted : (here : Here) (asker : Peer) (operation : ℕ) → AreCounted here (answer_get here asker operation)
answer_get_counted here asker operation l =
    only_if_counted here (is_settled here l) (send here asker.instance (Answer operation asker.incarnation l.held))
    (send_in_counted here.epoch here asker.instance (Answer operation asker.incarnation l.held)) l

take_put_counted : (here : Here) (sender : Peer) (operation : ℕ) (items : List Item) → AreCounted here (take_put here sender operation items)
unfolding accepted
take_put_counted here sender operation items l =
    only_if_counted here (not (operation == 0)) (send here sender.instance (Ack operation sender.incarnation))
    (send_in_counted here.epoch here sender.instance (Ack operation sender.incarnation)) (accepted here.moment items l)

does_counted : (decide : Decide) (here : Here) (message : Message) (body : Body) → AreCounted here (does decide here message body)
does_counted decide here message (Get operation) = answer_get_counted here (peer message.from message.incarnation) operation
does_counted decide here message (Answer operation incarnation items) =
    answered_counted decide here operation message.epoch (record { from = message.from; items = items })
does_counted decide here message (Put operation items) = take_put_counted here (peer message.from message.incarnation) operation items
does_counted decide here message (Ack operation incarnation) = acked_counted here operation message.epoch message.from
does_counted decide here message (Ask incarnation) = answer_ask_counted here (peer message.from incarnation)
does_counted decide here message (State incarnation place is_last items) =
    take_state_counted here (peer message.from message.incarnation) place is_last items
does_counted decide here message (Got incarnation place) = take_got_counted here (peer message.from message.incarnation) place

arrive_as_counted : (a : Arrival) (decide : Decide) (here : Here) (message : Message) → AreCounted here (arrive_as a decide here message)
arrive_as_counted Dropped decide here message = stays_counted here
arrive_as_counted IsCountedOnly decide here message = does_counted decide here message message.body
arrive_as_counted Taken decide here message =
    seq here (does decide here message message.body) (asks_first here) (does_counted decide here message message.body)
    (asks_first_counted here)

pub arrive_counted : (decide : Decide) (here : Here) (message : Message) → AreCounted here (arrive decide here message)
unfolding arrive
arrive_counted decide here message l = arrive_as_counted (arrival here message l) decide here message l

-- ---- the ring

pub just_opened_counted : (here : Here) → AreCounted here (just_opened here)
unfolding just_opened
just_opened_counted here l = only_if_counted here (holds_any l) (asks_first here) (asks_first_counted here) l

push_or_ask_counted : (here : Here) (receivers : List ℕ) → AreCounted here (push_or_ask here receivers)
push_or_ask_counted here receivers l =
    only_if_counted here (holds_any l) (if is_settled here l then each (begin_push here) receivers else asks_first here)
    (chosen_counted here (is_settled here l) (each (begin_push here) receivers) (asks_first here)
    (each_counted here (begin_push here) receivers (λ i. push_counted here (peer_now here i))) (asks_first_counted here)) l

go_on_counted : (here : Here) (before : List ℕ) → AreCounted here (go_on here before)
go_on_counted here before l =
    push_or_ask_counted here (to_push (others here) before l.settling) (with_settling (in_new_epoch l.settling) l)

drop_counted : (here : Here) (before : List ℕ)
    → AreCounted here (λ l. stays (if is_among here.instance before then dropped l else l))
unfolding dropped
drop_counted here before l = same_messages (is_among here.instance before) (dropped l) l refl

pub learned_counted : (here : Here) (before : List ℕ) → AreCounted here (ring_learned here before)
unfolding ring_learned
learned_counted here before l =
    seq here (only_if (not (are_same before here.three)) replicas_changed) (go_on_or_drop here before)
    (only_if_counted here (not (are_same before here.three)) replicas_changed (replicas_changed_counted here))
    (if_counted here (is_replica_here here) (go_on here before) (λ k. stays (if is_among here.instance before then dropped k else k))
    (go_on_counted here before) (drop_counted here before)) l

push_if_settled_counted : (here : Here) (r : ℕ) → AreCounted here (push_if_settled here r)
push_if_settled_counted here r l =
    only_if_counted here (is_replica_here here && (is_settled here l && holds_any l)) (begin_push here r)
    (push_counted here (peer_now here r)) l

other_restarted_counted : (here : Here) (r : ℕ) → AreCounted here (other_restarted here r)
unfolding other_restarted
other_restarted_counted here r l =
    only_if_counted here (is_among r here.three) (replicas_changed >> (end_push r >> push_if_settled here r))
    (seq here replicas_changed (end_push r >> push_if_settled here r) (replicas_changed_counted here)
    (seq here (end_push r) (push_if_settled here r) (λ k. refl) (push_if_settled_counted here r))) l

pub restart_counted : (r i : ℕ) (here : Here) → AreCounted here (at_restart r i here)
restart_counted r i here l =
    if_counted here (i == r) (just_opened here) (other_restarted here r) (just_opened_counted here) (other_restarted_counted here r) l
