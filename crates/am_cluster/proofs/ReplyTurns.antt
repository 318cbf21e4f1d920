-- Where replies go of all that an instance does: to no other askers than those of its open operations.
use Rattle.std.proofs.Common.{ℕ, Bool, true, false, ◌&&◌, not, List, length, Option, Some, None, is_none, if◌then◌else◌}
use Rattle.std.specs.Prelude.{nat_le, ◌==◌}
use Rattle.std.proofs.lemmas.List.Elements.{All-nil}
use Rattle.am_node.specs.Notices.{group_in}
use Rattle.am_http.specs.declared.request.Request.{Request}
use Rattle.am_item.specs.declared.item.Item.{Item}
use Rattle.am_labels.specs.declared.Label.{Label}
use Rattle.am_ring.specs.Instances.{is_among}
use Rattle.am_timer.specs.Timer.{Key}
use Rattle.am_timer.specs.declared.key.TimerKey.TheVariants.{Operation as OperationKey, Group as GroupKey, Retry as RetryKey, Push as PushKey}
use Rattle.am_transfer.specs.Peers.{Peer, at_number, peer}
use Rattle.am_transfer.specs.Pieces.{SentList, pieces_to_send, reach_of}
use Rattle.am_transfer.specs.Settling.{Push, Settling, in_new_epoch, lacking, list_for as sent_list_for, now_settled, settled_by, spans_from, to_push, with_list, with_push, with_span}
use Rattle.am_cluster.specs.Accepting.{accepted}
use Rattle.am_cluster.specs.Arriving.{Arrival, Counted, Dropped, Taken, answer_get, arrival, arrive, arrive_as, does, take_put}
use Rattle.am_cluster.specs.Courses.{at_restart}
use Rattle.am_cluster.specs.Flushing.{flushed}
use Rattle.am_cluster.specs.Here.{Here, is_replica_here, others, peer_now}
use Rattle.am_cluster.specs.Local.{Local, holds_any, is_settled, with_settling}
use Rattle.am_cluster.specs.Messages.{Ack, Answer, Ask, Body, Get, Got, Message, Put, State}
use Rattle.am_cluster.specs.Operating.{Decide, replicas_changed, timed_out}
use Rattle.am_cluster.specs.Operations.{Operation, operation_at}
use Rattle.am_cluster.specs.Reactions.{each, only_if, stays, ◌>>◌}
use Rattle.am_cluster.specs.Replying.{GoesOver, KeepsAskers, WaitOver}
use Rattle.am_cluster.specs.Retiring.{retired}
use Rattle.am_cluster.specs.RingChanges.{are_same, dropped, end_push, go_on, go_on_or_drop, just_opened, other_restarted, push_if_settled, push_or_ask, ring_learned}
use Rattle.am_cluster.specs.Sending.{greatest_place, send}
use Rattle.am_cluster.specs.Ticking.{due_keys, handled, is_flush_due, muted_of, send_again, ticked}
use Rattle.am_cluster.specs.Transfers.{answer_ask, ask, asked, asks_first, begin_push, forced, push, send_piece, send_state, take_got, take_state}
use Rattle.am_cluster.proofs.ReplyPieces.{acked_over, answered_over, chosen_over, each_over, either_over, flushed_over, found_over, if_over, only_if_over, provided_over, replicas_changed_over, retried_over, send_in_over, seq_over, stays_over, timed_out_over, where_some_with}

module _ (P : (connection : ℕ) → Request → Type 0) where
  -- ---- settling

  pub ask_over : (here : Here) (to : ℕ) → KeepsAskers P (ask here to)
  unfolding ask
  ask_over here to l w =
      send_in_over P here.epoch here to (Ask here.incarnation)
      (with_settling (record (l.settling) { asked_at = Some here.moment }) l) w

  pub asks_first_over : (here : Here) → KeepsAskers P (asks_first here)
  unfolding asks_first
  asks_first_over here l w =
      only_if_over P (is_replica_here here && (not (is_settled here l) && is_none l.settling.asked_at))
      (each (ask here) (lacking (others here) l.settling))
      (each_over P (ask here) (lacking (others here) l.settling) (ask_over here)) l w

  pub send_state_over : (here : Here) (is_asked : Bool) (receiver : Peer)
      → KeepsAskers P (send_state here is_asked receiver)
  unfolding send_state
  send_state_over here is_asked receiver l w =
      let list : SentList = sent_list_for receiver l.held l.settling in
      each_over P (send_piece here receiver) (pieces_to_send is_asked list)
      (λ p. provided_over P (nat_le p.place greatest_place)
      (send here receiver.instance (State receiver.incarnation p.place p.is_last p.items))
      (send_in_over P here.epoch here receiver.instance (State receiver.incarnation p.place p.is_last p.items)))
      (with_settling (with_list receiver list l.settling) l) w

  pub push_over : (here : Here) (receiver : Peer) → KeepsAskers P (push here receiver)
  unfolding push
  push_over here receiver l w =
      send_state_over here false receiver
      (with_settling (with_push receiver.instance receiver.incarnation here.moment l.settling) l) w

  pub take_state_over : (here : Here) (sender : Peer) (place : ℕ) (is_last : Bool) (items : List Item)
      → KeepsAskers P (take_state here sender place is_last items)
  unfolding take_state accepted
  take_state_over here sender place is_last items l w =
      let s : Settling = with_span sender place (record { count = length items; is_last = is_last }) l.settling in
      send_in_over P here.epoch here sender.instance (Got sender.incarnation (reach_of (spans_from sender s)).place)
      (with_settling (settled_by (others here) s) (accepted here.moment items l)) w

  pub answer_ask_over : (here : Here) (asker : Peer) → KeepsAskers P (answer_ask here asker)
  unfolding answer_ask
  answer_ask_over here asker l w =
      only_if_over P (is_settled here l) (send_state here true asker) (send_state_over here true asker) l w

  pub take_got_over : (here : Here) (receiver : Peer) (place : ℕ) → KeepsAskers P (take_got here receiver place)
  unfolding take_got
  take_got_over here receiver place l w = (w, All-nil (GoesOver P))

  pub forced_over : (here : Here) → KeepsAskers P (forced here)
  unfolding forced
  forced_over here l w = (
    either_over P (is_replica_here here && not (is_settled here l)) (with_settling (now_settled l.settling) l) l w w,
    All-nil (GoesOver P),
  )

  -- ---- ticks

  pub send_again_over : (here : Here) (to : ℕ) (p : Option Push) → KeepsAskers P (send_again here to p)
  send_again_over here to (Some p) l w = push_over here (peer to p.incarnation) l w
  send_again_over here to None l w =
      only_if_over P (is_among to (asked here l)) (ask here to) (ask_over here to) l w

  pub handled_over : (here : Here) (muted : List (List Label)) (key : Key) → KeepsAskers P (handled here muted key)
  unfolding handled
  handled_over here muted (OperationKey number) l w =
      where_some_with P (λ (o : Operation). P o.connection o.request) timed_out (operation_at number l.operations)
      (found_over P (λ (o : Operation). o.number == number) l.operations w) (λ o p. timed_out_over P o p) l w
  handled_over here muted (GroupKey key) l w =
      only_if_over P (is_flush_due here key l) (flushed here muted (group_in key))
      (flushed_over P here muted (group_in key)) l w
  handled_over here muted (RetryKey number) l w = retried_over P here number l w
  handled_over here muted (PushKey to) l w = send_again_over here to (at_number to l.settling.pushes) l w

  pub retired_over : (moment : ℕ) (l : Local) → WaitOver P l.operations → WaitOver P (retired moment l).operations
  unfolding retired
  retired_over moment l w = w

  pub ticked_over : (here : Here) → KeepsAskers P (ticked here)
  unfolding ticked
  ticked_over here l w =
      each_over P (handled here (muted_of here (retired here.moment l))) (due_keys here (retired here.moment l))
      (handled_over here (muted_of here (retired here.moment l))) (retired here.moment l)
      (retired_over here.moment l w)

  -- ---- messages

  pub answer_get_over : (here : Here) (asker : Peer) (operation : ℕ)
      → KeepsAskers P (answer_get here asker operation)
  answer_get_over here asker operation l w =
      only_if_over P (is_settled here l) (send here asker.instance (Answer operation asker.incarnation l.held))
      (send_in_over P here.epoch here asker.instance (Answer operation asker.incarnation l.held)) l w

  pub take_put_over : (here : Here) (sender : Peer) (operation : ℕ) (items : List Item)
      → KeepsAskers P (take_put here sender operation items)
  unfolding accepted
  take_put_over here sender operation items l w =
      only_if_over P (not (operation == 0)) (send here sender.instance (Ack operation sender.incarnation))
      (send_in_over P here.epoch here sender.instance (Ack operation sender.incarnation))
      (accepted here.moment items l) w

  pub does_over : (decide : Decide) (here : Here) (message : Message) (body : Body)
      → KeepsAskers P (does decide here message body)
  does_over decide here message (Get operation) =
      answer_get_over here (peer message.from message.incarnation) operation
  does_over decide here message (Answer operation incarnation items) =
      answered_over P decide here operation message.epoch (record { from = message.from; items = items })
  does_over decide here message (Put operation items) =
      take_put_over here (peer message.from message.incarnation) operation items
  does_over decide here message (Ack operation incarnation) = acked_over P operation message.epoch message.from
  does_over decide here message (Ask incarnation) = answer_ask_over here (peer message.from incarnation)
  does_over decide here message (State incarnation place is_last items) =
      take_state_over here (peer message.from message.incarnation) place is_last items
  does_over decide here message (Got incarnation place) =
      take_got_over here (peer message.from message.incarnation) place

  pub arrive_as_over : (a : Arrival) (decide : Decide) (here : Here) (message : Message)
      → KeepsAskers P (arrive_as a decide here message)
  arrive_as_over Dropped decide here message = stays_over P
  arrive_as_over Counted decide here message = does_over decide here message message.body
  arrive_as_over Taken decide here message =
      seq_over P (does decide here message message.body) (asks_first here) (does_over decide here message message.body)
      (asks_first_over here)

  pub arrive_over : (decide : Decide) (here : Here) (message : Message)
      → KeepsAskers P (arrive decide here message)
  unfolding arrive
  arrive_over decide here message l w = arrive_as_over (arrival here message l) decide here message l w

  -- ---- the ring

  pub just_opened_over : (here : Here) → KeepsAskers P (just_opened here)
  unfolding just_opened
  just_opened_over here l w = only_if_over P (holds_any l) (asks_first here) (asks_first_over here) l w

  pub push_or_ask_over : (here : Here) (receivers : List ℕ) → KeepsAskers P (push_or_ask here receivers)
  push_or_ask_over here receivers l w =
      only_if_over P (holds_any l) (if is_settled here l then each (begin_push here) receivers else asks_first here)
      (chosen_over P (is_settled here l) (each (begin_push here) receivers) (asks_first here)
      (each_over P (begin_push here) receivers (λ i. push_over here (peer_now here i))) (asks_first_over here)) l w

  pub go_on_over : (here : Here) (before : List ℕ) → KeepsAskers P (go_on here before)
  go_on_over here before l w =
      push_or_ask_over here (to_push (others here) before l.settling) (with_settling (in_new_epoch l.settling) l) w

  pub dropped_over : (l : Local) → WaitOver P (dropped l).operations
  unfolding dropped
  dropped_over l = All-nil (λ (o : Operation). P o.connection o.request)

  pub drop_over : (here : Here) (before : List ℕ)
      → KeepsAskers P (λ l. stays (if is_among here.instance before then dropped l else l))
  drop_over here before l w =
      (either_over P (is_among here.instance before) (dropped l) l (dropped_over l) w, All-nil (GoesOver P))

  pub learned_over : (here : Here) (before : List ℕ) → KeepsAskers P (ring_learned here before)
  unfolding ring_learned
  learned_over here before l w =
      seq_over P (only_if (not (are_same before here.three)) replicas_changed) (go_on_or_drop here before)
      (only_if_over P (not (are_same before here.three)) replicas_changed (replicas_changed_over P))
      (λ k v. if_over P (is_replica_here here) (go_on here before k)
      (stays (if is_among here.instance before then dropped k else k)) (go_on_over here before k v)
      (drop_over here before k v)) l w

  pub push_if_settled_over : (here : Here) (r : ℕ) → KeepsAskers P (push_if_settled here r)
  push_if_settled_over here r l w =
      only_if_over P (is_replica_here here && (is_settled here l && holds_any l)) (begin_push here r)
      (push_over here (peer_now here r)) l w

  pub other_restarted_over : (here : Here) (r : ℕ) → KeepsAskers P (other_restarted here r)
  unfolding other_restarted
  other_restarted_over here r l w =
      only_if_over P (is_among r here.three) (replicas_changed >> (end_push r >> push_if_settled here r))
      (seq_over P replicas_changed (end_push r >> push_if_settled here r) (replicas_changed_over P)
      (seq_over P (end_push r) (push_if_settled here r) (λ k v. (v, All-nil (GoesOver P)))
      (push_if_settled_over here r))) l w

  pub restart_over : (r i : ℕ) (here : Here) → KeepsAskers P (at_restart r i here)
  restart_over r i here l w =
      if_over P (i == r) (just_opened here l) (other_restarted here r l) (just_opened_over here l w)
      (other_restarted_over here r l w)
