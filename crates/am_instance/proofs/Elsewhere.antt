-- A tenant is elsewhere where the instance is none of its replicas: it stays so, whatever happens there.
use Rattle.std.proofs.Common.{◌≡◌, ◌∙◌, ◌+◌, ℕ, Bool, true, false, ◌&&◌, ◌==◌, not, List, [], ◌∷◌, length, Option, Some}
use Rattle.std.proofs.Common.{None, inl, inr, ap, refl, sym, subst, codes, if◌then◌else◌}
use Rattle.std.proofs.lemmas.Bool.{cases_Bool, false≢true}
use Rattle.am_cluster.specs.Deciding.{Decision}
use Rattle.am_cluster.specs.Accepting.{counted}
use Rattle.am_cluster.specs.Arriving.{Arrival, Counted, Dropped, Taken, arrival, arrive, arrive_as, does, is_meant}
use Rattle.am_cluster.specs.Delivery.{concluded, entry_of, outcome, recorded, told}
use Rattle.am_cluster.specs.Flushing.{begun, flushed}
use Rattle.am_cluster.specs.Here.{Here, is_replica_here, others}
use Rattle.am_cluster.specs.Local.{Local, blank, holds_any, with_settling}
use Rattle.am_cluster.specs.Messages.{Ack, Answer, Ask, Body, Get, Got, Message, Put, State, is_answer}
use Rattle.am_cluster.specs.Operating.{Decide, acked, ack_by, answer_by, answered, begin, carry_out, finish, first_ack}
use Rattle.am_cluster.specs.Operating.{first_answer, list_for, operation_for, replicas_changed, stamp, start, timed_out}
use Rattle.am_cluster.specs.Operating.{unavailable, wait_with, reply_for}
use Rattle.am_cluster.specs.Operations.{Answered, Decided, Operation, Stage, Undecided, operation_at, operation_of}
use Rattle.am_cluster.specs.Plans.{by_replica, replica_local}
use Rattle.am_cluster.specs.Reactions.{Reaction, each, only_if, stays, where_some, ◌>>◌}
use Rattle.am_cluster.specs.Retiring.{retired}
use Rattle.am_cluster.specs.RingChanges.{end_push, just_opened, other_restarted, push_if_settled}
use Rattle.am_cluster.specs.Sending.{send_all, send_in}
use Rattle.am_cluster.specs.Ticking.{handled, is_flush_due, send_again}
use Rattle.am_cluster.specs.Transfers.{ask, asked, asks_first, forced}
use Rattle.am_context.specs.declared.context.Context.{Context as NodeContext}
use Rattle.am_agenda.specs.Plan.{group_in}
use Rattle.am_http.specs.Replies.{reply}
use Rattle.am_http.specs.declared.request.Request.{Request}
use Rattle.am_item.specs.declared.entry.EntryKey.{EntryKey}
use Rattle.am_item.specs.declared.item.Item.{Item}
use Rattle.am_labels.specs.declared.Label.{Label}
use Rattle.am_members.specs.declared.group.Group.{Group}
use Rattle.am_current.specs.Current.{configuration_in}
use Rattle.am_node.specs.Delivery as replica
use Rattle.am_node.specs.Flushing.{members_but}
use Rattle.am_node.specs.Local.{Local as NodeLocal, Reaction as NodeReaction}
use Rattle.am_node.specs.Notices.{Keep, Notify, Telling, sent_among, tellings}
use Rattle.am_outlet.specs.Attempts.{after_outcome, outcome_of}
use Rattle.am_outlet.specs.declared.outcome.Outcome.{Outcome}
use Rattle.am_outlet.specs.declared.outcome.Outcome.TheVariants.{NotOpen, Delivered, Again, GivenUp}
use Rattle.am_ring.specs.Instances.{is_among}
use Rattle.am_site.specs.Learning.{IsIdle}
use Rattle.am_timer.specs.Timer.{Key}
use Rattle.am_timer.specs.declared.key.TimerKey.TheVariants.{Operation as OperationKey, Group as GroupKey}
use Rattle.am_timer.specs.declared.key.TimerKey.TheVariants.{Retry as RetryKey, Push as PushKey}
use Rattle.am_transfer.specs.Peers.{ByNumber, at_number, without_number}
use Rattle.am_transfer.specs.Settling.{Push, Settling, without_push}
use Rattle.am_instance.specs.Changing.{started}
use Rattle.am_instance.specs.declared.restarting.Start.{Start}
use Rattle.am_instance.specs.declared.restarting.Start.TheVariants.{Own, Other}

-- a tenant is left elsewhere where the instance is none of its replicas
abbrev pub StaysElsewhere : Here → (Local → Reaction) → Type 0
StaysElsewhere here react = is_replica_here here ≡ false → (l : Local) → IsIdle l → IsIdle (react l).local

pub blank_elsewhere : (l : Local) → l ≡ blank → IsIdle l
blank_elsewhere l is = subst IsIdle (sym is) (record { sinces = refl; pushes = refl; asked = refl })

-- it is told by the alerts and by how far it is settled
alike : (l m : Local) → m.sinces ≡ l.sinces → m.settling ≡ l.settling → IsIdle l → IsIdle m
alike l m sinces settling e = record {
  sinces = sinces ∙ e.sinces;
  pushes = ap (λ (s : Settling). s.pushes) settling ∙ e.pushes;
  asked = ap (λ (s : Settling). s.asked_at) settling ∙ e.asked;
}

-- ---- messages that are sent

sent : (epoch : ℕ) (here : Here) (to : ℕ) (body : Body) (l : Local) → IsIdle l
    → IsIdle (send_in epoch here to body l).local
unfolding send_in
sent epoch here to body l e = alike l (send_in epoch here to body l).local refl refl e

all_sent : (epoch : ℕ) (here : Here) (to : List ℕ) (body : Body) (l : Local) → IsIdle l
    → IsIdle (send_all epoch here to body l).local
all_sent epoch here [] body l e = e
all_sent epoch here (i ∷ to) body l e =
    all_sent epoch here to body (send_in epoch here i body l).local (sent epoch here i body l e)

-- ---- operations

pub start_elsewhere : (here : Here) (c : ℕ) (request : Request) (l : Local) → IsIdle l
    → IsIdle (start here c request l).local
unfolding start
start_elsewhere here c request l e =
    let number = l.ledger.operations + 1 in
    let begun : Local = (begin (operation_for here c request number) l).local in
    all_sent here.epoch here here.three (Get number) begun (alike l begun refl refl e)

finished : (bytes : List ℕ) (o : Operation) (l : Local) → IsIdle l → IsIdle (finish bytes o l).local
unfolding finish
finished bytes o l e = alike l (finish bytes o l).local refl refl e

all_finished : (bytes : List ℕ) (os : List Operation) (l : Local) → IsIdle l
    → IsIdle (each (finish bytes) os l).local
all_finished bytes [] l e = e
all_finished bytes (o ∷ os) l e = all_finished bytes os (finish bytes o l).local (finished bytes o l e)

pub changed_elsewhere : (l : Local) → IsIdle l → IsIdle (replicas_changed l).local
unfolding replicas_changed
changed_elsewhere l e = all_finished (unavailable (codes "Q2")) l.operations l e

carried : (here : Here) (o : Operation) (decision : Decision) (l : Local) → IsIdle l
    → IsIdle (carry_out here o decision l).local
unfolding carry_out
carried here o decision l e = by (length decision.items == 0)
  where
    bytes : List ℕ
    bytes = reply decision.status decision.body

    stamped : Local
    stamped = (stamp decision l).local

    waiting : Local
    waiting = (wait_with bytes o stamped).local

    by : (b : Bool) → IsIdle ((if b then finish bytes o
        else (wait_with bytes o >> send_all o.epoch here here.three (Put o.number decision.items))) stamped).local
    by true = finished bytes o stamped (alike l stamped refl refl e)
    by false = all_sent o.epoch here here.three (Put o.number decision.items) waiting (alike l waiting refl refl e)

first_answered : (o : Operation) (stage : Stage) (answer : Answered) (l : Local) → IsIdle l
    → IsIdle (first_answer o stage answer l)
first_answered o (Undecided None) answer l e =
    alike l (first_answer o (Undecided None) answer l) refl refl e
first_answered o (Undecided (Some first)) answer l e = e
first_answered o (Decided bytes first) answer l e = e

answered_by : (decide : Decide) (here : Here) (o : Operation) (answer : Answered) (list : Option (List Item)) (l : Local)
    → IsIdle l → IsIdle (answer_by decide here o answer list l).local
answered_by decide here o answer None l e = first_answered o o.stage answer l e
answered_by decide here o answer (Some list) l e = carried here o (decide here o.request list l) l e

answered_elsewhere : (decide : Decide) (here : Here) (number epoch : ℕ) (answer : Answered) (l : Local) → IsIdle l
    → IsIdle (answered decide here number epoch answer l).local
unfolding answered
answered_elsewhere decide here number epoch answer l e = by (operation_of number epoch l.operations)
  where
    by : (found : Option Operation)
        → IsIdle (where_some (λ (o : Operation). answer_by decide here o answer (list_for o.stage answer)) found l).local
    by None = e
    by (Some o) = answered_by decide here o answer (list_for o.stage answer) l e

first_acked : (o : Operation) (stage : Stage) (from : ℕ) (l : Local) → IsIdle l
    → IsIdle (first_ack o stage from l)
first_acked o (Undecided first) from l e = e
first_acked o (Decided bytes None) from l e = alike l (first_ack o (Decided bytes None) from l) refl refl e
first_acked o (Decided bytes (Some first)) from l e = e

acked_by : (o : Operation) (from : ℕ) (bytes : Option (List ℕ)) (l : Local) → IsIdle l
    → IsIdle (ack_by o from bytes l).local
acked_by o from None l e = first_acked o o.stage from l e
acked_by o from (Some bytes) l e = finished bytes o l e

acked_elsewhere : (number epoch from : ℕ) (l : Local) → IsIdle l → IsIdle (acked number epoch from l).local
unfolding acked
acked_elsewhere number epoch from l e = by (operation_of number epoch l.operations)
  where
    by : (found : Option Operation)
        → IsIdle (where_some (λ (o : Operation). ack_by o from (reply_for o.stage from)) found l).local
    by None = e
    by (Some o) = acked_by o from (reply_for o.stage from) l e

-- ---- messages that come

module _ (here : Here) (none : is_replica_here here ≡ false) where
  -- none but an answer is meant
  unmeant : (message : Message) (body : Body) (l : Local) → is_answer body ≡ false
      → is_meant here message body l ≡ false
  unmeant message (Get operation) l other = none
  unmeant message (Put operation items) l other = none
  unmeant message (Ask incarnation) l other = none
  unmeant message (State incarnation place is_last items) l other = rw none refl
  unmeant message (Got incarnation place) l other = rw none refl
  unmeant message (Answer operation incarnation items) l other = absurd (false≢true (sym other))
  unmeant message (Ack operation incarnation) l other = absurd (false≢true (sym other))

  asks_none : (l : Local) → asks_first here l ≡ stays l
  unfolding asks_first
  asks_none l = rw none refl

  does_elsewhere : (decide : Decide) (message : Message) (body : Body) (l : Local) → is_answer body ≡ true
      → IsIdle l → IsIdle (does decide here message body l).local
  does_elsewhere decide message (Answer operation incarnation items) l is e =
      answered_elsewhere decide here operation message.epoch (record { from = message.from; items = items }) l e
  does_elsewhere decide message (Ack operation incarnation) l is e =
      acked_elsewhere operation message.epoch message.from l e
  does_elsewhere decide message (Get operation) l is e = absurd (false≢true is)
  does_elsewhere decide message (Put operation items) l is e = absurd (false≢true is)
  does_elsewhere decide message (Ask incarnation) l is e = absurd (false≢true is)
  does_elsewhere decide message (State incarnation place is_last items) l is e = absurd (false≢true is)
  does_elsewhere decide message (Got incarnation place) l is e = absurd (false≢true is)

  arrived_as : (arrival : Arrival) (decide : Decide) (message : Message) (l : Local) → is_answer message.body ≡ true
      → IsIdle l → IsIdle (arrive_as arrival decide here message l).local
  arrived_as Dropped decide message l is e = e
  arrived_as Counted decide message l is e = does_elsewhere decide message message.body l is e
  arrived_as Taken decide message l is e =
      let did : Local = (does decide here message message.body l).local in
      subst (λ (r : Reaction). IsIdle r.local) (sym (asks_none did))
      (does_elsewhere decide message message.body l is e)

  dropped_other : (message : Message) (l : Local) → is_answer message.body ≡ false → arrival here message l ≡ Dropped
  dropped_other message l other = rw (unmeant message message.body l other) refl

  pub arrive_elsewhere : (decide : Decide) (message : Message) (l : Local) → IsIdle l
      → IsIdle (arrive decide here message l).local
  unfolding arrive
  arrive_elsewhere decide message l e = elim (cases_Bool (is_answer message.body)) [
    | inl is ↦ arrived_as (arrival here message l) decide message l is e
    | inr other ↦
        subst (λ (a : Arrival). IsIdle (arrive_as a decide here message l).local)
        (sym (dropped_other message l other)) e
  ]

-- ---- notices

by_replica_elsewhere : (react : NodeContext → NodeLocal → NodeReaction) (here : Here) (l : Local) → IsIdle l
    → IsIdle (by_replica react here l).local
by_replica_elsewhere react here l e = alike l (by_replica react here l).local refl refl e

recorded_elsewhere : (here : Here) (key : EntryKey) (firing resolved : List (List Label)) (span : ℕ) (l : Local)
    → IsIdle l → IsIdle (recorded here key firing resolved span l).local
unfolding recorded
recorded_elsewhere here key firing resolved span l e =
    let react = λ (h : NodeContext). replica.recorded h key firing resolved span in
    all_sent here.epoch here (others here) (Put 0 (entry_of here key firing resolved span l ∷ []))
    (by_replica react here l).local (by_replica_elsewhere react here l e)

concluded_elsewhere : (here : Here) (o : Outcome) (l : Local) → IsIdle l → IsIdle (concluded here o l).local
concluded_elsewhere here NotOpen l e = e
concluded_elsewhere here (Delivered notice) l e =
    recorded_elsewhere here notice.key notice.firing notice.resolved notice.span l e
concluded_elsewhere here (Again due) l e = e
concluded_elsewhere here GivenUp l e = e

pub outcome_elsewhere : (here : Here) (number tries : ℕ) (status : Option ℕ) (l : Local) → IsIdle l
    → IsIdle (outcome here number tries status l).local
unfolding outcome
outcome_elsewhere here number tries status l e =
    let noted : Local = record l { desk = after_outcome number tries here.moment status l.desk } in
    concluded_elsewhere here (outcome_of number tries here.moment status l.desk.open_ones) noted
    (alike l noted refl refl e)

told_elsewhere : (here : Here) (telling : Telling) (l : Local) → IsIdle l → IsIdle (told here telling l).local
told_elsewhere here (Notify notice) l e = by_replica_elsewhere (λ h. replica.notified h notice) here l e
told_elsewhere here (Keep key span) l e = recorded_elsewhere here key [] [] span l e

all_told : (here : Here) (tellings : List Telling) (l : Local) → IsIdle l
    → IsIdle (each (told here) tellings l).local
all_told here [] l e = e
all_told here (telling ∷ tellings) l e =
    all_told here tellings (told here telling l).local (told_elsewhere here telling l e)

flushed_elsewhere : (here : Here) (muted : List (List Label)) (group : Group) (l : Local) → IsIdle l
    → IsIdle (flushed here muted group l).local
unfolding flushed
flushed_elsewhere here muted group l e =
    all_told here
    (tellings (configuration_in l.held) group (sent_among l.held) (members_but muted group (replica_local here l)) here.moment)
    (begun here group l) (alike l (begun here group l) refl refl e)

-- ---- ticks

pub retired_elsewhere : (moment : ℕ) (l : Local) → IsIdle l → IsIdle (retired moment l)
unfolding retired
retired_elsewhere moment l e = record { sinces = rw e.sinces refl; pushes = e.pushes; asked = e.asked }

only_elsewhere : (b : Bool) (react : Local → Reaction) (l : Local) → IsIdle l → IsIdle (react l).local
    → IsIdle (only_if b react l).local
only_elsewhere true react l e did = did
only_elsewhere false react l e did = e

timed_elsewhere : (found : Option Operation) (l : Local) → IsIdle l
    → IsIdle (where_some timed_out found l).local
timed_elsewhere None l e = e
timed_elsewhere (Some o) l e = finished (unavailable (codes "Q1")) o l e

asked_none : (here : Here) (l : Local) → IsIdle l → asked here l ≡ []
asked_none here l e = rw e.asked refl

again_elsewhere : (here : Here) (to : ℕ) (l : Local) → IsIdle l
    → IsIdle (send_again here to (at_number to l.settling.pushes) l).local
again_elsewhere here to l e =
    let react = λ (found : Option Push). (send_again here to found l).local in
    subst (λ (pushes : ByNumber Push). IsIdle (react (at_number to pushes))) (sym e.pushes)
    (subst (λ (is : List ℕ). IsIdle (only_if (is_among to is) (ask here to) l).local) (sym (asked_none here l e)) e)

pub handled_elsewhere : (here : Here) (muted : List (List Label)) (key : Key) (l : Local) → IsIdle l
    → IsIdle (handled here muted key l).local
unfolding handled
handled_elsewhere here muted (OperationKey number) l e = timed_elsewhere (operation_at number l.operations) l e
handled_elsewhere here muted (GroupKey key) l e =
    only_elsewhere (is_flush_due here key l) (flushed here muted (group_in key)) l e
    (flushed_elsewhere here muted (group_in key) l e)
handled_elsewhere here muted (RetryKey number) l e = by_replica_elsewhere (λ h. replica.retried h number) here l e
handled_elsewhere here muted (PushKey to) l e = again_elsewhere here to l e

-- ---- the ring and other instances

module _ (here : Here) (none : is_replica_here here ≡ false) where
  pub forced_elsewhere : (l : Local) → IsIdle l → IsIdle (forced here l).local
  unfolding forced
  forced_elsewhere l e = rw none e

  opened_elsewhere : (l : Local) → IsIdle l → IsIdle (just_opened here l).local
  unfolding just_opened
  opened_elsewhere l e =
      only_elsewhere (holds_any l) (asks_first here) l e
      (subst (λ (r : Reaction). IsIdle r.local) (sym (asks_none here none l)) e)

  ended : (r : ℕ) (l : Local) → IsIdle l → IsIdle (end_push r l).local
  ended r l e = record { sinces = e.sinces; pushes = rw e.pushes refl; asked = e.asked }

  pushes_none : (r : ℕ) (l : Local) → push_if_settled here r l ≡ stays l
  pushes_none r l = rw none refl

  other_elsewhere : (r : ℕ) (l : Local) → IsIdle l → IsIdle (other_restarted here r l).local
  unfolding other_restarted
  other_elsewhere r l e =
      let changed : Local = (replicas_changed l).local in
      let over : Local = (end_push r changed).local in
      only_elsewhere (is_among r here.three) (replicas_changed >> (end_push r >> push_if_settled here r)) l e
      (subst (λ (s : Reaction). IsIdle s.local) (sym (pushes_none r over)) (ended r changed (changed_elsewhere l e)))

  pub started_elsewhere : (start : Start) (l : Local) → IsIdle l → IsIdle (started start here l).local
  started_elsewhere Own l e = opened_elsewhere l e
  started_elsewhere (Other r) l e = other_elsewhere r l e
