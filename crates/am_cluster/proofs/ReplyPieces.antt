-- Where replies go of what an instance sends, tells and does for operations: to no other askers than those of its open
-- operations, and that of a request that comes.
use Rattle.std.proofs.Common.{ℕ, ◌+◌, Bool, true, false, ◌&&◌, not, All, List, [], ◌∷◌, length, find, Option, Some, None, if◌then◌else◌}
use Rattle.std.specs.Prelude.{IfSome, codes, ◌==◌}
use Rattle.std.specs.List.{filter_map}
use Rattle.std.proofs.lemmas.List.Elements.{All-append, All-cons, All-filter, All-head, All-map, All-nil, All-push, All-tail, All-weaker}
use Rattle.am_api.specs.Replied.{Decision}
use Rattle.am_context.specs.declared.context.Context.{Context as NodeContext}
use Rattle.am_current.specs.Current.{configuration_in}
use Rattle.am_http.specs.Replies.{reply}
use Rattle.am_http.specs.declared.request.Request.{Request}
use Rattle.am_item.specs.declared.entry.EntryKey.{EntryKey}
use Rattle.am_item.specs.declared.item.Item.{Item}
use Rattle.am_labels.specs.declared.Label.{Label}
use Rattle.am_limit.specs.Allowances.{asked as notice_asked}
use Rattle.am_limit.specs.Limits.{has_room, with_limit}
use Rattle.am_members.specs.declared.group.Group.{Group}
use Rattle.am_node.specs.Delivery.{notified as replica_notified, recorded as replica_recorded, retried as replica_retried, started_if, tells}
use Rattle.am_node.specs.Flushing.{members_but}
use Rattle.am_node.specs.Local.{Local as ReplicaLocal, Reaction as ReplicaReaction}
use Rattle.am_node.specs.Notices.{Keep, Notify, Telling, sent_among, tellings}
use Rattle.am_outlet.specs.Attempts.{after_outcome, next_of, outcome_of, sending_of}
use Rattle.am_outlet.specs.declared.attempt.Notice.{Notice}
use Rattle.am_outlet.specs.declared.attempt.Sending.{Sending}
use Rattle.am_outlet.specs.declared.outcome.Outcome.{Outcome}
use Rattle.am_outlet.specs.declared.outcome.Outcome.TheVariants.{NotOpen, Delivered, Again, GivenUp}
use Rattle.am_cluster.specs.Delivery.{concluded, entry_of, outcome, recorded, retried, told}
use Rattle.am_cluster.specs.Flushing.{begun, flushed}
use Rattle.am_cluster.specs.Here.{Here, others, replica_here}
use Rattle.am_cluster.specs.Local.{Local}
use Rattle.am_cluster.specs.Messages.{Body, Get, Message, Put}
use Rattle.am_cluster.specs.Operating.{Decide, ack_by, acked, answer_by, answered, at_stage, begin, carry_out, finish, first_ack, first_answer, list_for, operation_for, replicas_changed, reply_for, stamp, start, timed_out, unavailable, wait_with}
use Rattle.am_cluster.specs.Operations.{Answered, Decided, Operation, Stage, Undecided, operation_of, with_operation}
use Rattle.am_cluster.specs.Plans.{by_replica, replica_local, said_by}
use Rattle.am_cluster.specs.Reactions.{Reaction, Replies, Said, Sends, Tells, each, only_if, provided, says, stays, where_some, ◌>>◌}
use Rattle.am_cluster.specs.Replying.{GoesOver, IsOver, KeepsAskers, ReplyOver, WaitOver}
use Rattle.am_cluster.specs.Sending.{message_to, send_all, send_in}

module _ (P : (connection : ℕ) → Request → Type 0) where
  -- ---- one reaction

  pub stays_over : KeepsAskers P stays
  stays_over l w = (w, All-nil (GoesOver P))

  pub says_over : (word : Said) → GoesOver P word → KeepsAskers P (says word)
  says_over word goes l w = (w, All-cons (GoesOver P) word [] goes (All-nil (GoesOver P)))

  -- what becomes of what it has, where nothing is said
  pub becomes_over : (f : Local → Local) → ((l : Local) → WaitOver P l.operations → WaitOver P (f l).operations)
      → KeepsAskers P (λ l. stays (f l))
  becomes_over f kept l w = (kept l w, All-nil (GoesOver P))

  pub seq_over : (f g : Local → Reaction) → KeepsAskers P f → KeepsAskers P g → KeepsAskers P (f >> g)
  seq_over f g a b l w =
      let first = a l w in
      let next = b (f l).local first.0 in
      (next.0, All-append (GoesOver P) (f l).said (g (f l).local).said first.1 next.1)

  pub each_with : {A : Type 0} (Q : A → Type 0) (f : A → Local → Reaction) (xs : List A) → All Q xs
      → ((x : A) → Q x → KeepsAskers P (f x)) → KeepsAskers P (each f xs)
  each_with Q f [] all a l w = stays_over l w
  each_with Q f (x ∷ xs) all a l w =
      seq_over (f x) (each f xs) (a x (All-head Q x xs all)) (each_with Q f xs (All-tail Q x xs all) a) l w

  pub each_over : {A : Type 0} (f : A → Local → Reaction) (xs : List A) → ((x : A) → KeepsAskers P (f x))
      → KeepsAskers P (each f xs)
  each_over f [] a l w = stays_over l w
  each_over f (x ∷ xs) a l w = seq_over (f x) (each f xs) (a x) (each_over f xs a) l w

  pub if_over : (b : Bool) (r s : Reaction) → IsOver P r → IsOver P s → IsOver P (if b then r else s)
  if_over true r s e d = e
  if_over false r s e d = d

  pub chosen_over : (b : Bool) (f g : Local → Reaction) → KeepsAskers P f → KeepsAskers P g
      → KeepsAskers P (if b then f else g)
  chosen_over true f g a c l w = a l w
  chosen_over false f g a c l w = c l w

  pub only_if_over : (b : Bool) (f : Local → Reaction) → KeepsAskers P f → KeepsAskers P (only_if b f)
  only_if_over b f a l w = if_over b (f l) (stays l) (a l w) (stays_over l w)

  pub where_some_with : {A : Type 0} (Q : A → Type 0) (f : A → Local → Reaction) (o : Option A) → IfSome o Q
      → ((x : A) → Q x → KeepsAskers P (f x)) → KeepsAskers P (where_some f o)
  where_some_with Q f None q a l w = stays_over l w
  where_some_with Q f (Some x) q a l w = a x q l w

  pub where_some_over : {A : Type 0} (f : A → Local → Reaction) (o : Option A) → ((x : A) → KeepsAskers P (f x))
      → KeepsAskers P (where_some f o)
  where_some_over f None a l w = stays_over l w
  where_some_over f (Some x) a l w = a x l w

  pub provided_over : (b : Bool) (f : Local → Reaction) → KeepsAskers P f → KeepsAskers P (provided b f)
  provided_over b f a l w = a l w

  -- either of two
  pub either_over : (b : Bool) (k l : Local) → WaitOver P k.operations → WaitOver P l.operations
      → WaitOver P (if b then k else l).operations
  either_over true k l v w = v
  either_over false k l v w = w

  -- ---- sending

  pub sent_over : (m : Message) → ReplyOver P (Sends m ∷ [])
  sent_over m = All-cons (GoesOver P) (Sends m) [] tt (All-nil (GoesOver P))

  pub send_in_over : (epoch : ℕ) (here : Here) (to : ℕ) (body : Body) → KeepsAskers P (send_in epoch here to body)
  unfolding send_in
  send_in_over epoch here to body l w = (w, sent_over (message_to here epoch to (l.ledger.messages + 1) body))

  pub send_all_over : (epoch : ℕ) (here : Here) (to : List ℕ) (body : Body)
      → KeepsAskers P (send_all epoch here to body)
  send_all_over epoch here to body l w =
      each_over (λ i. send_in epoch here i body) to (λ i. send_in_over epoch here i body) l w

  -- ---- notices

  pub by_replica_over : (f : NodeContext → ReplicaLocal → ReplicaReaction) (here : Here)
      → ((h : NodeContext) (r : ReplicaLocal) → ReplyOver P (filter_map said_by (f h r).said))
      → KeepsAskers P (by_replica f here)
  by_replica_over f here no_reply l w = (w, no_reply (replica_here here) (replica_local here l))

  recorded_by : (key : EntryKey) (firing resolved : List (List Label)) (span : ℕ) (h : NodeContext) (r : ReplicaLocal)
      → ReplyOver P (filter_map said_by (replica_recorded h key firing resolved span r).said)
  unfolding replica_recorded
  recorded_by key firing resolved span h r = All-nil (GoesOver P)

  started_by : (b : Bool) (notice : Notice) (r : ReplicaLocal)
      → ReplyOver P (filter_map said_by (started_if b notice r).said)
  started_by true notice r =
      All-cons (GoesOver P) (Tells (sending_of (r.plan.desk.used + 1) 1 notice)) [] tt (All-nil (GoesOver P))
  started_by false notice r = All-nil (GoesOver P)

  notified_by : (notice : Notice) (h : NodeContext) (r : ReplicaLocal)
      → ReplyOver P (filter_map said_by (replica_notified h notice r).said)
  unfolding replica_notified
  notified_by notice h r =
      started_by (has_room (with_limit r.noticed h.limits.notices) h.moment) notice
      (record r { noticed = notice_asked h.limits.notices h.moment r.noticed })

  tells_by : (o : Option Sending) → ReplyOver P (filter_map said_by (tells o))
  tells_by None = All-nil (GoesOver P)
  tells_by (Some sending) = All-cons (GoesOver P) (Tells sending) [] tt (All-nil (GoesOver P))

  retried_by : (number : ℕ) (h : NodeContext) (r : ReplicaLocal)
      → ReplyOver P (filter_map said_by (replica_retried h number r).said)
  unfolding replica_retried
  retried_by number h r = tells_by (next_of number h.moment r.plan.desk)

  pub recorded_over : (here : Here) (key : EntryKey) (firing resolved : List (List Label)) (span : ℕ)
      → KeepsAskers P (recorded here key firing resolved span)
  unfolding recorded
  recorded_over here key firing resolved span l w =
      seq_over (by_replica (λ h. replica_recorded h key firing resolved span) here)
      (send_all here.epoch here (others here) (Put 0 (entry_of here key firing resolved span l ∷ [])))
      (by_replica_over (λ h. replica_recorded h key firing resolved span) here
      (recorded_by key firing resolved span))
      (send_all_over here.epoch here (others here) (Put 0 (entry_of here key firing resolved span l ∷ []))) l w

  pub told_over : (here : Here) (telling : Telling) → KeepsAskers P (told here telling)
  told_over here (Notify notice) =
      by_replica_over (λ h. replica_notified h notice) here (notified_by notice)
  told_over here (Keep key span) = recorded_over here key [] [] span

  pub concluded_over : (here : Here) (o : Outcome) → KeepsAskers P (concluded here o)
  concluded_over here NotOpen = stays_over
  concluded_over here (Delivered notice) = recorded_over here notice.key notice.firing notice.resolved notice.span
  concluded_over here (Again due) = stays_over
  concluded_over here GivenUp = stays_over

  pub outcome_over : (here : Here) (number tries : ℕ) (status : Option ℕ)
      → KeepsAskers P (outcome here number tries status)
  unfolding outcome
  outcome_over here number tries status l w =
      concluded_over here (outcome_of number tries here.moment status l.desk.open_ones)
      (record l { desk = after_outcome number tries here.moment status l.desk }) w

  pub retried_over : (here : Here) (number : ℕ) → KeepsAskers P (retried here number)
  retried_over here number l w = by_replica_over (λ h. replica_retried h number) here (retried_by number) l w

  pub flushed_over : (here : Here) (muted : List (List Label)) (group : Group)
      → KeepsAskers P (flushed here muted group)
  unfolding flushed
  flushed_over here muted group l w =
      each_over (told here)
      (tellings (configuration_in l.held) group (sent_among l.held) (members_but muted group (replica_local here l))
      here.moment)
      (told_over here) (begun here group l) w

  -- ---- operations

  -- an operation that is found among such
  pub found_over : (f : Operation → Bool) (os : List Operation) → WaitOver P os
      → IfSome (find f os) (λ (o : Operation). P o.connection o.request)
  found_over f [] w = tt
  found_over f (o ∷ os) w =
      by_test (f o) (All-head (λ (x : Operation). P x.connection x.request) o os w)
      (found_over f os (All-tail (λ (x : Operation). P x.connection x.request) o os w))
    where
      by_test : (b : Bool) → P o.connection o.request
          → IfSome (find f os) (λ (x : Operation). P x.connection x.request)
          → IfSome (if b then Some o else find f os) (λ (x : Operation). P x.connection x.request)
      by_test true p more = p
      by_test false p more = more

  -- one in the place of another
  pub replaced_over : (new : Operation) (os : List Operation) → P new.connection new.request → WaitOver P os
      → WaitOver P (with_operation new os)
  replaced_over new os p w =
      All-map Holds (λ (o : Operation). if o.number == new.number then new else o) os
      (All-weaker Holds (λ (o : Operation). Holds (if o.number == new.number then new else o))
      (λ o q. by_number (o.number == new.number) o q) os w)
    where
      Holds : Operation → Type 0
      Holds o = P o.connection o.request

      by_number : (b : Bool) (o : Operation) → Holds o → Holds (if b then new else o)
      by_number true o q = p
      by_number false o q = q

  pub finish_over : (bytes : List ℕ) (operation : Operation) → P operation.connection operation.request
      → KeepsAskers P (finish bytes operation)
  unfolding finish
  finish_over bytes operation p l w = (
    All-filter (λ (o : Operation). not (o.number == operation.number)) (λ (o : Operation). P o.connection o.request)
        l.operations w,
    All-cons (GoesOver P) (Replies operation.connection bytes) [] (operation.request, p) (All-nil (GoesOver P)),
  )

  pub timed_out_over : (operation : Operation) → P operation.connection operation.request
      → KeepsAskers P (timed_out operation)
  timed_out_over operation p l w = finish_over (unavailable (codes "Q1")) operation p l w

  pub replicas_changed_over : KeepsAskers P replicas_changed
  unfolding replicas_changed
  replicas_changed_over l w =
      each_with (λ (o : Operation). P o.connection o.request) (finish (unavailable (codes "Q2"))) l.operations w
      (λ o p. finish_over (unavailable (codes "Q2")) o p) l w

  pub begin_over : (operation : Operation) → P operation.connection operation.request → KeepsAskers P (begin operation)
  begin_over operation p l w =
      (All-push (λ (o : Operation). P o.connection o.request) l.operations operation w p, All-nil (GoesOver P))

  pub start_over : (here : Here) (connection : ℕ) (request : Request) → P connection request
      → KeepsAskers P (start here connection request)
  unfolding start
  start_over here connection request p l w =
      let operation : Operation = operation_for here connection request (l.ledger.operations + 1) in
      seq_over (begin operation) (send_all here.epoch here here.three (Get operation.number)) (begin_over operation p)
      (send_all_over here.epoch here here.three (Get operation.number)) l w

  pub at_stage_over : (stage : Stage) (operation : Operation) (l : Local) → P operation.connection operation.request
      → WaitOver P l.operations → WaitOver P (at_stage stage operation l).operations
  at_stage_over stage operation l p w = replaced_over (record operation { stage = stage }) l.operations p w

  pub stamp_over : (decision : Decision) → KeepsAskers P (stamp decision)
  stamp_over decision l w = (w, All-nil (GoesOver P))

  pub wait_over : (bytes : List ℕ) (operation : Operation) → P operation.connection operation.request
      → KeepsAskers P (wait_with bytes operation)
  wait_over bytes operation p l w = (at_stage_over (Decided bytes None) operation l p w, All-nil (GoesOver P))

  pub carried_over : (here : Here) (operation : Operation) (decision : Decision)
      → P operation.connection operation.request → KeepsAskers P (carry_out here operation decision)
  unfolding carry_out
  carried_over here operation decision p l w =
      let bytes : List ℕ = reply decision.status decision.body in
      let put : Local → Reaction = send_all operation.epoch here here.three (Put operation.number decision.items) in
      seq_over (stamp decision)
      (if length decision.items == 0 then finish bytes operation else (wait_with bytes operation >> put))
      (stamp_over decision)
      (chosen_over (length decision.items == 0) (finish bytes operation) (wait_with bytes operation >> put)
      (finish_over bytes operation p)
      (seq_over (wait_with bytes operation) put (wait_over bytes operation p)
      (send_all_over operation.epoch here here.three (Put operation.number decision.items)))) l w

  first_answer_over : (operation : Operation) (stage : Stage) (answer : Answered) (l : Local)
      → P operation.connection operation.request → WaitOver P l.operations
      → WaitOver P (first_answer operation stage answer l).operations
  first_answer_over operation (Undecided None) answer l p w =
      at_stage_over (Undecided (Some answer)) operation l p w
  first_answer_over operation (Undecided (Some first)) answer l p w = w
  first_answer_over operation (Decided bytes first) answer l p w = w

  pub answer_by_over : (decide : Decide) (here : Here) (operation : Operation) (answer : Answered)
      (list : Option (List Item)) → P operation.connection operation.request
      → KeepsAskers P (answer_by decide here operation answer list)
  answer_by_over decide here operation answer None p l w =
      (first_answer_over operation operation.stage answer l p w, All-nil (GoesOver P))
  answer_by_over decide here operation answer (Some list) p l w =
      carried_over here operation (decide here operation.request list l) p l w

  pub answered_over : (decide : Decide) (here : Here) (number epoch : ℕ) (answer : Answered)
      → KeepsAskers P (answered decide here number epoch answer)
  unfolding answered
  answered_over decide here number epoch answer l w =
      where_some_with (λ (o : Operation). P o.connection o.request)
      (λ (o : Operation). answer_by decide here o answer (list_for o.stage answer))
      (operation_of number epoch l.operations)
      (found_over (λ (o : Operation). o.number == number && o.epoch == epoch) l.operations w)
      (λ o p. answer_by_over decide here o answer (list_for o.stage answer) p) l w

  first_ack_over : (operation : Operation) (stage : Stage) (from : ℕ) (l : Local)
      → P operation.connection operation.request → WaitOver P l.operations
      → WaitOver P (first_ack operation stage from l).operations
  first_ack_over operation (Undecided first) from l p w = w
  first_ack_over operation (Decided bytes None) from l p w =
      at_stage_over (Decided bytes (Some from)) operation l p w
  first_ack_over operation (Decided bytes (Some first)) from l p w = w

  pub ack_by_over : (operation : Operation) (from : ℕ) (bytes : Option (List ℕ))
      → P operation.connection operation.request → KeepsAskers P (ack_by operation from bytes)
  ack_by_over operation from None p l w =
      (first_ack_over operation operation.stage from l p w, All-nil (GoesOver P))
  ack_by_over operation from (Some bytes) p l w = finish_over bytes operation p l w

  pub acked_over : (number epoch from : ℕ) → KeepsAskers P (acked number epoch from)
  unfolding acked
  acked_over number epoch from l w =
      where_some_with (λ (o : Operation). P o.connection o.request)
      (λ (o : Operation). ack_by o from (reply_for o.stage from)) (operation_of number epoch l.operations)
      (found_over (λ (o : Operation). o.number == number && o.epoch == epoch) l.operations w)
      (λ o p. ack_by_over o from (reply_for o.stage from) p) l w
