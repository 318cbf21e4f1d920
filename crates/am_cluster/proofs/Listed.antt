-- The pieces of States that an instance sends are of the lists that it keeps for their receivers, and these stay.
use Rattle.std.proofs.Common.{◌≡◌, ℕ, ◌+◌, Bool, true, false, ◌&&◌, not, List, [], ◌∷◌, ◌++◌, length, Option, Some, None, is_none, if◌then◌else◌, refl, sym, ap, subst, ◌∙◌}
use Rattle.am_http.specs.declared.request.Request.{Request}
use Rattle.am_api.specs.Replied.{Decision}
use Rattle.am_http.specs.Replies.{reply}
use Rattle.am_item.specs.declared.entry.EntryKey.{EntryKey}
use Rattle.am_item.specs.declared.item.Item.{Item}
use Rattle.am_labels.specs.declared.Label.{Label}
use Rattle.am_members.specs.declared.group.Group.{Group}
use Rattle.am_current.specs.Current.{configuration_in}
use Rattle.am_outlet.specs.Attempts.{after_outcome, outcome_of}
use Rattle.am_node.specs.Flushing.{members_but}
use Rattle.am_node.specs.Notices.{Keep, Notify, Telling, group_in, sent_among, tellings}
use Rattle.std.specs.Prelude.{codes, ◌==◌, option_map, unwrap_or}
use Rattle.std.specs.List.{list_all}
use Rattle.std.proofs.Common.{inl, inr}
use Rattle.am_cluster.proofs.Counted.{messages-append, none_said}
use Rattle.am_cluster.proofs.PeerMaps.{at_other, at_same, peer_cases}
use Rattle.am_outlet.specs.declared.outcome.Outcome.{Outcome}
use Rattle.am_outlet.specs.declared.outcome.Outcome.TheVariants.{NotOpen, Delivered, Again, GivenUp}
use Rattle.am_node.specs.Delivery as replica
use Rattle.am_node.specs.Local.{Local as ReplicaLocal, Reaction as ReplicaReaction}
use Rattle.am_context.specs.declared.context.Context.{Context as NodeContext}
use Rattle.am_ring.specs.Instances.{is_among}
use Rattle.am_timer.specs.Timer.{Key}
use Rattle.am_timer.specs.declared.key.TimerKey.TheVariants.{Operation as OperationKey, Group as GroupKey, Retry as RetryKey, Push as PushKey}
use Rattle.am_cluster.specs.Accepting.{accepted}
use Rattle.am_cluster.specs.Arriving.{Arrival, Counted as IsCountedOnly, Dropped, Taken, answer_get, arrival, arrive, arrive_as, does, take_put}
use Rattle.am_cluster.specs.Courses.{at_restart}
use Rattle.am_cluster.specs.Delivery.{concluded, entry_of, outcome, recorded, told}
use Rattle.am_cluster.specs.Flushing.{begun, flushed}
use Rattle.am_cluster.specs.Here.{Here, is_replica_here, others, peer_now, replica_here}
use Rattle.am_cluster.specs.Local.{Local, holds_any, is_settled, with_settling}
use Rattle.am_cluster.specs.Messages.{Ack, Answer, Ask, Body, Get, Got, Message, Put, State}
use Rattle.am_cluster.specs.Operating.{Decide, ack_by, acked, answer_by, answered, begin, carry_out, finish, first_ack, first_answer, list_for, operation_for, replicas_changed, reply_for, stamp, start, timed_out, unavailable, wait_with}
use Rattle.am_cluster.specs.Operations.{Answered, Decided, Operation, Stage, Undecided, operation_at, operation_of}
use Rattle.am_transfer.specs.Peers.{ByPeer, Peer, at_number, at_peer, peer, with_peer}
use Rattle.am_transfer.specs.Pieces.{Piece, SentList, cut, first_sent, named_at, pieces_to_send, reach_of}
use Rattle.am_cluster.specs.Plans.{by_replica, replica_local}
use Rattle.am_cluster.specs.Reactions.{Reaction, each, messages_in, only_if, stays, ◌>>◌}
use Rattle.am_cluster.specs.Retiring.{retired}
use Rattle.am_cluster.specs.RingChanges.{are_same, dropped, end_push, go_on, go_on_or_drop, just_opened, other_restarted, push_if_settled, push_or_ask, ring_learned}
use Rattle.am_cluster.specs.Sending.{message_to, send, send_all, send_in}
use Rattle.am_transfer.specs.Settling.{Push, Settling, ended_by, in_new_epoch, is_merged, lacking, list_for as sent_list_for, now_settled, settled_by, spans_from, to_push, with_list, with_push, with_span, without_push}
use Rattle.am_cluster.specs.Ticking.{due_keys, handled, is_flush_due, muted_of, send_again, ticked}
use Rattle.am_cluster.specs.Transfers.{answer_ask, ask, asked, asks_first, begin_push, forced, push, send_piece, send_state, take_got, take_state}
use Rattle.am_cluster.proofs.ListsKept.{AllWithin, AreCut, AreListed, IsListed, Within, all_later, chosen_listed, cut-append, cut_in, each_listed, from_within, if_listed, list_at, none_some, only_if_listed, seq, stays_listed, still, where_some_listed}

-- ---- sending

-- a message that is no piece
abbrev IsPlain : Body → Type 0
IsPlain (State incarnation place is_last items) = ⊥
IsPlain (Get operation) = Unit {0}
IsPlain (Answer operation incarnation items) = Unit {0}
IsPlain (Put operation items) = Unit {0}
IsPlain (Ack operation incarnation) = Unit {0}
IsPlain (Ask incarnation) = Unit {0}
IsPlain (Got incarnation place) = Unit {0}

plain_cut : (here : Here) (k : Local) (m : Message) (body : Body) → IsPlain body → cut_in here k m body
plain_cut here k m (State incarnation place is_last items) plain = absurd plain
plain_cut here k m (Get operation) plain = tt
plain_cut here k m (Answer operation incarnation items) plain = tt
plain_cut here k m (Put operation items) plain = tt
plain_cut here k m (Ack operation incarnation) plain = tt
plain_cut here k m (Ask incarnation) plain = tt
plain_cut here k m (Got incarnation place) plain = tt

send_in_listed : (epoch : ℕ) (here : Here) (to : ℕ) (body : Body) → IsPlain body → AreListed here (send_in epoch here to body)
unfolding send_in
send_in_listed epoch here to body plain l = (
  λ q list e. e,
  (plain_cut here (send_in epoch here to body l).local (message_to here epoch to (l.ledger.messages + 1) body) body plain, tt),
)

send_all_listed : (epoch : ℕ) (here : Here) (to : List ℕ) (body : Body) → IsPlain body → AreListed here (send_all epoch here to body)
send_all_listed epoch here to body plain = each_listed here (λ i. send_in epoch here i body) to (λ i. send_in_listed epoch here i body plain)

-- ---- notices

by_replica_listed : (f : NodeContext → ReplicaLocal → ReplicaReaction) (here : Here) → AreListed here (by_replica f here)
by_replica_listed f here l =
    still here l (by_replica f here l) refl (none_said (f (replica_here here) (replica_local here l)).said)

recorded_listed : (here : Here) (key : EntryKey) (firing resolved : List (List Label)) (span : ℕ)
    → AreListed here (recorded here key firing resolved span)
unfolding recorded
recorded_listed here key firing resolved span l =
    seq here (by_replica (λ h. replica.recorded h key firing resolved span) here)
    (send_all here.epoch here (others here) (Put 0 (entry_of here key firing resolved span l ∷ [])))
    (by_replica_listed (λ h. replica.recorded h key firing resolved span) here)
    (send_all_listed here.epoch here (others here) (Put 0 (entry_of here key firing resolved span l ∷ [])) tt) l

told_listed : (here : Here) (telling : Telling) → AreListed here (told here telling)
told_listed here (Notify notice) = by_replica_listed (λ h. replica.notified h notice) here
told_listed here (Keep key span) = recorded_listed here key [] [] span

concluded_listed : (here : Here) (o : Outcome) → AreListed here (concluded here o)
concluded_listed here NotOpen = stays_listed here
concluded_listed here (Delivered notice) = recorded_listed here notice.key notice.firing notice.resolved notice.span
concluded_listed here (Again due) = stays_listed here
concluded_listed here GivenUp = stays_listed here

pub outcome_listed : (here : Here) (number tries : ℕ) (status : Option ℕ) → AreListed here (outcome here number tries status)
unfolding outcome
outcome_listed here number tries status l =
    concluded_listed here (outcome_of number tries here.moment status l.desk.open_ones)
    (record l { desk = after_outcome number tries here.moment status l.desk })

flushed_listed : (here : Here) (muted : List (List Label)) (group : Group) → AreListed here (flushed here muted group)
unfolding flushed
flushed_listed here muted group l =
    each_listed here (told here)
    (tellings (configuration_in l.held) group (sent_among l.held) (members_but muted group (replica_local here l)) here.moment)
    (told_listed here) (begun here group l)

-- ---- operations

finish_listed : (here : Here) (bytes : List ℕ) (operation : Operation) → AreListed here (finish bytes operation)
unfolding finish
finish_listed here bytes operation l = still here l (finish bytes operation l) refl refl

replicas_changed_listed : (here : Here) → AreListed here replicas_changed
unfolding replicas_changed
replicas_changed_listed here l =
    each_listed here (finish (unavailable (codes "Q2"))) l.operations (finish_listed here (unavailable (codes "Q2"))) l

pub start_listed : (here : Here) (connection : ℕ) (request : Request) → AreListed here (start here connection request)
unfolding start
start_listed here connection request l =
    let operation : Operation = operation_for here connection request (l.ledger.operations + 1) in
    seq here (begin operation) (send_all here.epoch here here.three (Get operation.number)) (λ k. still here k (begin operation k) refl refl)
    (send_all_listed here.epoch here here.three (Get operation.number) tt) l

carried_listed : (here : Here) (operation : Operation) (decision : Decision) → AreListed here (carry_out here operation decision)
unfolding carry_out
carried_listed here operation decision l =
    let bytes : List ℕ = reply decision.status decision.body in
    let put : Local → Reaction = send_all operation.epoch here here.three (Put operation.number decision.items) in
    seq here (stamp decision) (if length decision.items == 0 then finish bytes operation else (wait_with bytes operation >> put))
    (λ k. still here k (stamp decision k) refl refl)
    (chosen_listed here (length decision.items == 0) (finish bytes operation) (wait_with bytes operation >> put)
    (finish_listed here bytes operation)
    (seq here (wait_with bytes operation) put (λ k. still here k (wait_with bytes operation k) refl refl)
    (send_all_listed operation.epoch here here.three (Put operation.number decision.items) tt))) l

first_answer_same : (operation : Operation) (stage : Stage) (answer : Answered) (l : Local)
    → (first_answer operation stage answer l).settling.lists ≡ l.settling.lists
first_answer_same operation (Undecided None) answer l = refl
first_answer_same operation (Undecided (Some first)) answer l = refl
first_answer_same operation (Decided reply first) answer l = refl

answer_by_listed : (decide : Decide) (here : Here) (operation : Operation) (answer : Answered) (list : Option (List Item))
    → AreListed here (answer_by decide here operation answer list)
answer_by_listed decide here operation answer None l =
    still here l (stays (first_answer operation operation.stage answer l)) (first_answer_same operation operation.stage answer l) refl
answer_by_listed decide here operation answer (Some list) l =
    carried_listed here operation (decide here operation.request list l) l

answered_listed : (decide : Decide) (here : Here) (number epoch : ℕ) (answer : Answered)
    → AreListed here (answered decide here number epoch answer)
unfolding answered
answered_listed decide here number epoch answer l =
    where_some_listed here (λ (o : Operation). answer_by decide here o answer (list_for o.stage answer))
    (operation_of number epoch l.operations) (λ o. answer_by_listed decide here o answer (list_for o.stage answer)) l

first_ack_same : (operation : Operation) (stage : Stage) (from : ℕ) (l : Local)
    → (first_ack operation stage from l).settling.lists ≡ l.settling.lists
first_ack_same operation (Undecided first) from l = refl
first_ack_same operation (Decided reply None) from l = refl
first_ack_same operation (Decided reply (Some first)) from l = refl

ack_by_listed : (here : Here) (operation : Operation) (from : ℕ) (bytes : Option (List ℕ)) → AreListed here (ack_by operation from bytes)
ack_by_listed here operation from None l =
    still here l (stays (first_ack operation operation.stage from l)) (first_ack_same operation operation.stage from l) refl
ack_by_listed here operation from (Some bytes) l = finish_listed here bytes operation l

acked_listed : (here : Here) (number epoch from : ℕ) → AreListed here (acked number epoch from)
unfolding acked
acked_listed here number epoch from l =
    where_some_listed here (λ (o : Operation). ack_by o from (reply_for o.stage from))
    (operation_of number epoch l.operations) (λ o. ack_by_listed here o from (reply_for o.stage from)) l

-- ---- settling

ask_listed : (here : Here) (to : ℕ) → AreListed here (ask here to)
unfolding ask
ask_listed here to l =
    send_in_listed here.epoch here to (Ask here.incarnation) tt
    (with_settling (record (l.settling) { asked_at = Some here.moment }) l)

asks_first_listed : (here : Here) → AreListed here (asks_first here)
unfolding asks_first
asks_first_listed here l =
    only_if_listed here (is_replica_here here && (not (is_settled here l) && is_none l.settling.asked_at))
    (each (ask here) (lacking (others here) l.settling)) (each_listed here (ask here) (lacking (others here) l.settling) (ask_listed here)) l

-- the pieces that go out are of the list that is kept
piece_sent : (here : Here) (receiver : Peer) (list : List Item) (p : Piece) (l : Local) → list_at receiver l ≡ Some list → Within p (cut list)
    → IsListed here l (send_piece here receiver p l)
unfolding send_in
piece_sent here receiver list p l kept within = (
  λ q other e. e,
  ((refl, (list, kept, within)), tt),
)

pieces_sent_listed : (here : Here) (receiver : Peer) (list : List Item) (ps : List Piece) (l : Local) → list_at receiver l ≡ Some list
    → AllWithin ps (cut list)
    → IsListed here l (each (send_piece here receiver) ps l)
pieces_sent_listed here receiver list [] l kept within = still here l (stays l) refl refl
pieces_sent_listed here receiver list (p ∷ ps) l kept within =
    let one : Local → Reaction = send_piece here receiver p in
    let more : Local → Reaction = each (send_piece here receiver) ps in
    let first = piece_sent here receiver list p l kept within.0 in
    let next = pieces_sent_listed here receiver list ps (one l).local (first.0 receiver list kept) within.1 in (
      λ q other e. next.0 q other (first.0 q other e),
      subst (AreCut here (more (one l).local).local) (sym (messages-append (one l).said (more (one l).local).said))
          (cut-append here (more (one l).local).local (messages_in (one l).said) (messages_in (more (one l).local).said)
          (all_later here (one l).local (more (one l).local).local (messages_in (one l).said) next.0 first.1) next.1),
    )

-- putting the list that is sent keeps every list
puts_list : (receiver : Peer) (l : Local) (q : Peer) (items : List Item) → list_at q l ≡ Some items
    → list_at q (with_settling (with_list receiver (sent_list_for receiver l.held l.settling) l.settling) l) ≡ Some items
puts_list receiver l q items e = elim (peer_cases q receiver) [
  | inr other ↦ ap (option_map (λ (s : SentList). s.items))
      (at_other receiver (sent_list_for receiver l.held l.settling) q l.settling.lists other) ∙ e
  | inl same ↦
      ap (λ r. option_map (λ (s : SentList). s.items) (at_peer r (with_peer receiver (sent_list_for receiver l.held l.settling) l.settling.lists))) same
      ∙ ap (option_map (λ (s : SentList). s.items)) (at_same receiver (sent_list_for receiver l.held l.settling) l.settling.lists)
      ∙ stands (at_peer receiver l.settling.lists) l.held (ap (λ r. list_at r l) (sym same) ∙ e)
]
  where
    stands : (o : Option SentList) (held : List Item) → option_map (λ (s : SentList). s.items) o ≡ Some items
        → option_map (λ (s : SentList). s.items) (Some (unwrap_or o (first_sent held))) ≡ Some items
    stands (Some s) held d = d
    stands None held d = absurd (none_some d)

send_state_listed : (here : Here) (is_asked : Bool) (receiver : Peer) → AreListed here (send_state here is_asked receiver)
unfolding send_state
send_state_listed here is_asked receiver l =
    let list : SentList = sent_list_for receiver l.held l.settling in
    let k : Local = with_settling (with_list receiver list l.settling) l in
    let kept : list_at receiver k ≡ Some list.items =
    ap (option_map (λ (s : SentList). s.items)) (at_same receiver list l.settling.lists) in
    let rest = pieces_sent_listed here receiver list.items (pieces_to_send is_asked list) k kept
    (from_within (if is_asked && list.is_ended then 0 else list.reached) (cut list.items)) in (
      λ q items e. rest.0 q items (puts_list receiver l q items e),
      rest.1,
    )

push_listed : (here : Here) (receiver : Peer) → AreListed here (push here receiver)
unfolding push
push_listed here receiver l =
    send_state_listed here false receiver
    (with_settling (with_push receiver.instance receiver.incarnation here.moment l.settling) l)

settled_same : (t : Bool) (s : Settling) → (if t then now_settled s else s).lists ≡ s.lists
settled_same true s = refl
settled_same false s = refl

take_state_listed : (here : Here) (sender : Peer) (place : ℕ) (is_last : Bool) (items : List Item)
    → AreListed here (take_state here sender place is_last items)
unfolding take_state accepted
take_state_listed here sender place is_last items l =
    let s : Settling = with_span sender place (record { count = length items; is_last = is_last }) l.settling in
    let k : Local = with_settling (settled_by (others here) s) (accepted here.moment items l) in
    let sent = send_in_listed here.epoch here sender.instance (Got sender.incarnation (reach_of (spans_from sender s)).place) tt k in (
      λ q list e. sent.0 q list
          (ap (λ (ls : ByPeer SentList). option_map (λ (x : SentList). x.items) (at_peer q ls))
          (settled_same (list_all (is_merged s) (others here)) s) ∙ e),
      sent.1,
    )

answer_ask_listed : (here : Here) (asker : Peer) → AreListed here (answer_ask here asker)
unfolding answer_ask
answer_ask_listed here asker l =
    only_if_listed here (is_settled here l) (send_state here true asker) (send_state_listed here true asker) l

ends_same : (t : Bool) (receiver : Peer) (list : SentList) (s : Settling)
    → (if t then without_push receiver.instance (with_list receiver list s) else with_list receiver list s).lists
    ≡ with_peer receiver list s.lists
ends_same true receiver list s = refl
ends_same false receiver list s = refl

-- naming a place keeps every list
names_place : (receiver : Peer) (place : ℕ) (s : Settling) (o : Option SentList) → at_peer receiver s.lists ≡ o → (q : Peer) (items : List Item)
    → option_map (λ (x : SentList). x.items) (at_peer q s.lists) ≡ Some items
    → option_map (λ (x : SentList). x.items)
    (at_peer q (unwrap_or (option_map (λ list. ended_by receiver (named_at place list) s) o) s).lists) ≡ Some items
names_place receiver place s None is q items e = e
names_place receiver place s (Some list) is q items e =
    ap (λ (ls : ByPeer SentList). option_map (λ (x : SentList). x.items) (at_peer q ls))
    (ends_same (named_at place list).is_ended receiver (named_at place list) s)
    ∙ elim (peer_cases q receiver) as (λ _. option_map (λ (x : SentList). x.items) (at_peer q (with_peer receiver (named_at place list) s.lists)) ≡ Some items) [
      | inr other ↦ ap (option_map (λ (x : SentList). x.items)) (at_other receiver (named_at place list) q s.lists other) ∙ e
      | inl same ↦
          ap (λ r. option_map (λ (x : SentList). x.items) (at_peer r (with_peer receiver (named_at place list) s.lists))) same
          ∙ ap (option_map (λ (x : SentList). x.items)) (at_same receiver (named_at place list) s.lists)
          ∙ sym (ap (option_map (λ (x : SentList). x.items)) is)
          ∙ ap (λ r. option_map (λ (x : SentList). x.items) (at_peer r s.lists)) (sym same)
          ∙ e
    ]

take_got_listed : (here : Here) (receiver : Peer) (place : ℕ) → AreListed here (take_got here receiver place)
unfolding take_got
take_got_listed here receiver place l = (
  λ q items e. names_place receiver place l.settling (at_peer receiver l.settling.lists) refl q items e,
  tt,
)

chosen_same : (t : Bool) (k l : Local) → k.settling.lists ≡ l.settling.lists → (if t then k else l).settling.lists ≡ l.settling.lists
chosen_same true k l e = e
chosen_same false k l e = refl

pub forced_listed : (here : Here) → AreListed here (forced here)
unfolding forced
forced_listed here l =
    still here l (stays (if is_replica_here here && not (is_settled here l) then with_settling (now_settled l.settling) l else l))
    (chosen_same (is_replica_here here && not (is_settled here l)) (with_settling (now_settled l.settling) l) l refl) refl

-- ---- ticks

send_again_listed : (here : Here) (to : ℕ) (p : Option Push) → AreListed here (send_again here to p)
send_again_listed here to (Some p) l = push_listed here (peer to p.incarnation) l
send_again_listed here to None l =
    only_if_listed here (is_among to (asked here l)) (ask here to) (ask_listed here to) l

handled_listed : (here : Here) (muted : List (List Label)) (key : Key) → AreListed here (handled here muted key)
unfolding handled
handled_listed here muted (OperationKey number) l =
    where_some_listed here timed_out (operation_at number l.operations) (finish_listed here (unavailable (codes "Q1"))) l
handled_listed here muted (GroupKey key) l =
    only_if_listed here (is_flush_due here key l) (flushed here muted (group_in key)) (flushed_listed here muted (group_in key)) l
handled_listed here muted (RetryKey number) l = by_replica_listed (λ h. replica.retried h number) here l
handled_listed here muted (PushKey to) l = send_again_listed here to (at_number to l.settling.pushes) l

pub ticked_listed : (here : Here) → AreListed here (ticked here)
unfolding ticked retired
ticked_listed here l =
    each_listed here (handled here (muted_of here (retired here.moment l))) (due_keys here (retired here.moment l))
    (handled_listed here (muted_of here (retired here.moment l))) (retired here.moment l)

-- ---- messages

answer_get_listed : (here : Here) (asker : Peer) (operation : ℕ) → AreListed here (answer_get here asker operation)
answer_get_listed here asker operation l =
    only_if_listed here (is_settled here l) (send here asker.instance (Answer operation asker.incarnation l.held))
    (send_in_listed here.epoch here asker.instance (Answer operation asker.incarnation l.held) tt) l

take_put_listed : (here : Here) (sender : Peer) (operation : ℕ) (items : List Item) → AreListed here (take_put here sender operation items)
unfolding accepted
take_put_listed here sender operation items l =
    only_if_listed here (not (operation == 0)) (send here sender.instance (Ack operation sender.incarnation))
    (send_in_listed here.epoch here sender.instance (Ack operation sender.incarnation) tt) (accepted here.moment items l)

does_listed : (decide : Decide) (here : Here) (message : Message) (body : Body) → AreListed here (does decide here message body)
does_listed decide here message (Get operation) = answer_get_listed here (peer message.from message.incarnation) operation
does_listed decide here message (Answer operation incarnation items) =
    answered_listed decide here operation message.epoch (record { from = message.from; items = items })
does_listed decide here message (Put operation items) = take_put_listed here (peer message.from message.incarnation) operation items
does_listed decide here message (Ack operation incarnation) = acked_listed here operation message.epoch message.from
does_listed decide here message (Ask incarnation) = answer_ask_listed here (peer message.from incarnation)
does_listed decide here message (State incarnation place is_last items) =
    take_state_listed here (peer message.from message.incarnation) place is_last items
does_listed decide here message (Got incarnation place) = take_got_listed here (peer message.from message.incarnation) place

arrive_as_listed : (a : Arrival) (decide : Decide) (here : Here) (message : Message) → AreListed here (arrive_as a decide here message)
arrive_as_listed Dropped decide here message = stays_listed here
arrive_as_listed IsCountedOnly decide here message = does_listed decide here message message.body
arrive_as_listed Taken decide here message =
    seq here (does decide here message message.body) (asks_first here) (does_listed decide here message message.body)
    (asks_first_listed here)

pub arrive_listed : (decide : Decide) (here : Here) (message : Message) → AreListed here (arrive decide here message)
unfolding arrive
arrive_listed decide here message l = arrive_as_listed (arrival here message l) decide here message l

-- ---- the ring

pub just_opened_listed : (here : Here) → AreListed here (just_opened here)
unfolding just_opened
just_opened_listed here l = only_if_listed here (holds_any l) (asks_first here) (asks_first_listed here) l

push_or_ask_listed : (here : Here) (receivers : List ℕ) → AreListed here (push_or_ask here receivers)
push_or_ask_listed here receivers l =
    only_if_listed here (holds_any l) (if is_settled here l then each (begin_push here) receivers else asks_first here)
    (chosen_listed here (is_settled here l) (each (begin_push here) receivers) (asks_first here)
    (each_listed here (begin_push here) receivers (λ i. push_listed here (peer_now here i))) (asks_first_listed here)) l

-- what is sent where a ring is learned is of the lists that are kept then; those of the epoch before are gone
abbrev pub SendsListed : Here → (Local → Reaction) → Type 0
SendsListed here f = (l : Local) → AreCut here (f l).local (messages_in (f l).said)

drops_or_goes : (here : Here) (t : Bool) (f g : Local → Reaction) → SendsListed here f → SendsListed here g
    → (l : Local) → AreCut here (if t then f l else g l).local (messages_in (if t then f l else g l).said)
drops_or_goes here true f g sf sg l = sf l
drops_or_goes here false f g sf sg l = sg l

goes_on : (here : Here) (before : List ℕ) → SendsListed here (go_on_or_drop here before)
goes_on here before l =
    drops_or_goes here (is_replica_here here) (go_on here before)
    (λ k. stays (if is_among here.instance before then dropped k else k))
    (λ k. (push_or_ask_listed here (to_push (others here) before k.settling) (with_settling (in_new_epoch k.settling) k)).1)
    (λ k. tt) l

no_messages : (bytes : List ℕ) (os : List Operation) (l : Local) → messages_in (each (finish bytes) os l).said ≡ []
unfolding finish
no_messages bytes [] l = refl
no_messages bytes (o ∷ os) l =
    messages-append (finish bytes o l).said (each (finish bytes) os (finish bytes o l).local).said
    ∙ no_messages bytes os (finish bytes o l).local

only_replies : (t : Bool) (l : Local) → messages_in (only_if t replicas_changed l).said ≡ []
unfolding replicas_changed
only_replies true l = no_messages (unavailable (codes "Q2")) l.operations l
only_replies false l = refl

pub learned_sends : (here : Here) (before : List ℕ) → SendsListed here (ring_learned here before)
unfolding ring_learned
learned_sends here before l =
    let first : Reaction = only_if (not (are_same before here.three)) replicas_changed l in
    let next : Reaction = go_on_or_drop here before first.local in
    subst (AreCut here next.local)
    (sym (messages-append first.said next.said
    ∙ ap (λ (ms : List Message). ms ++ messages_in next.said) (only_replies (not (are_same before here.three)) l)))
    (goes_on here before first.local)

push_if_settled_listed : (here : Here) (r : ℕ) → AreListed here (push_if_settled here r)
push_if_settled_listed here r l =
    only_if_listed here (is_replica_here here && (is_settled here l && holds_any l)) (begin_push here r)
    (push_listed here (peer_now here r)) l

other_restarted_listed : (here : Here) (r : ℕ) → AreListed here (other_restarted here r)
unfolding other_restarted
other_restarted_listed here r l =
    only_if_listed here (is_among r here.three) (replicas_changed >> (end_push r >> push_if_settled here r))
    (seq here replicas_changed (end_push r >> push_if_settled here r) (replicas_changed_listed here)
    (seq here (end_push r) (push_if_settled here r) (λ k. still here k (end_push r k) refl refl) (push_if_settled_listed here r))) l

pub restart_listed : (r i : ℕ) (here : Here) → AreListed here (at_restart r i here)
restart_listed r i here l =
    if_listed here (i == r) (just_opened here) (other_restarted here r) (just_opened_listed here) (other_restarted_listed here r) l
