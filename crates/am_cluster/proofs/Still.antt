-- What an instance does while all replicas are settled from the beginning: it sends nothing of settling, and has nothing of it.
use Rattle.std.proofs.Common.{◌≡◌, ℕ, ◌+◌, Bool, true, false, ◌&&◌, ◌||◌, not, List, [], ◌∷◌, ◌++◌, length, Option, Some, None, is_some, if◌then◌else◌, refl, sym, ap, subst, ◌∙◌}
use Rattle.std.specs.List.{list_any}
use Rattle.std.specs.Prelude.{codes, ◌==◌}
use Rattle.std.proofs.lemmas.Bool.{or_from, or_parts, true≢false}
use Rattle.am_node.specs.Notices.{Keep, Notify, Telling, group_in, sent_among, tellings}
use Rattle.am_api.specs.Replied.{Decision}
use Rattle.am_current.specs.Current.{configuration_in}
use Rattle.am_http.specs.Replies.{reply}
use Rattle.am_http.specs.declared.request.Request.{Request}
use Rattle.am_item.specs.declared.entry.EntryKey.{EntryKey}
use Rattle.am_item.specs.declared.item.Item.{Item}
use Rattle.am_labels.specs.declared.Label.{Label}
use Rattle.am_members.specs.declared.group.Group.{Group}
use Rattle.am_outlet.specs.Attempts.{after_outcome, outcome_of}
use Rattle.am_outlet.specs.declared.outcome.Outcome.{Outcome}
use Rattle.am_outlet.specs.declared.outcome.Outcome.TheVariants.{NotOpen, Delivered, Again, GivenUp}
use Rattle.am_node.specs.Delivery as replica
use Rattle.am_node.specs.Flushing.{members_but}
use Rattle.am_node.specs.Local.{Local as ReplicaLocal, Reaction as ReplicaReaction}
use Rattle.am_context.specs.declared.context.Context.{Context as NodeContext}
use Rattle.am_ring.specs.Instances.{is_among}
use Rattle.am_timer.specs.Timer.{Key}
use Rattle.am_timer.specs.declared.key.TimerKey.TheVariants.{Operation as OperationKey, Group as GroupKey, Retry as RetryKey, Push as PushKey}
use Rattle.am_cluster.specs.Accepting.{accepted}
use Rattle.am_cluster.specs.Arriving.{Arrival, Counted, Dropped, Taken, answer_get, arrival, arrive, arrive_as, does, take_put}
use Rattle.am_cluster.specs.Delivery.{concluded, entry_of, outcome, recorded, told}
use Rattle.am_cluster.specs.Flushing.{begun, flushed}
use Rattle.am_cluster.specs.Here.{Here, is_replica_here, others, replica_here}
use Rattle.am_cluster.specs.Local.{Local, is_settled, with_settling}
use Rattle.am_cluster.specs.Messages.{Ack, Answer, Ask, Body, Get, Got, Message, Put, State}
use Rattle.am_cluster.specs.Operating.{Decide, ack_by, acked, answer_by, answered, begin, carry_out, finish, first_ack, first_answer, list_for, operation_for, reply_for, stamp, start, timed_out, unavailable, wait_with}
use Rattle.am_cluster.specs.Operations.{Answered, Decided, Operation, Stage, Undecided, operation_at, operation_of}
use Rattle.am_transfer.specs.Peers.{Peer, at_number, peer}
use Rattle.am_cluster.specs.Plans.{by_replica, replica_local}
use Rattle.am_cluster.specs.Reactions.{Reaction, each, messages_in, only_if, stays, where_some, ◌>>◌}
use Rattle.am_cluster.specs.Retiring.{retired}
use Rattle.am_cluster.specs.Sending.{send, send_all, send_in}
use Rattle.am_transfer.specs.Settling.{Push, Settling, lacking, now_settled, untouched}
use Rattle.am_cluster.specs.Steady.{is_of_settling}
use Rattle.am_cluster.specs.Ticking.{due_keys, handled, is_flush_due, muted_of, send_again, ticked}
use Rattle.am_cluster.specs.Transfers.{ask, asks_first, forced}
use Rattle.am_cluster.proofs.Counted.{messages-append, none_said}
use Rattle.am_cluster.proofs.Start.{nobody_asks}

-- ---- lists in which nothing is found

pub any-append : {A : Type 0} (f : A → Bool) (xs ys : List A) → list_any f xs ≡ false → list_any f ys ≡ false
    → list_any f (xs ++ ys) ≡ false
any-append f [] ys e d = d
any-append f (x ∷ xs) ys e d =
    let parts = or_parts (f x) (list_any f xs) e in
    or_from (f x) (list_any f (xs ++ ys)) parts.0 (any-append f xs ys parts.1 d)

-- no message of a list is of settling
abbrev pub ArePlain : List Message → Type 0
ArePlain ms = list_any (λ (m : Message). is_of_settling m.body) ms ≡ false

-- ---- one reaction

pub record IsStill (r : Reaction) : Type 0 where
  pub settling : r.local.settling ≡ untouched
  pub said : ArePlain (messages_in r.said)

abbrev pub AreStill : (Local → Reaction) → Type 0
AreStill f = (l : Local) → l.settling ≡ untouched → IsStill (f l)

stays_still : AreStill stays
stays_still l u = record { settling = u; said = refl }

seq : (f g : Local → Reaction) → AreStill f → AreStill g → AreStill (f >> g)
seq f g a b l u =
    let first = a l u in
    let next = b (f l).local first.settling in
    record {
      settling = next.settling;
      said = subst ArePlain (sym (messages-append (f l).said (g (f l).local).said))
          (any-append (λ (m : Message). is_of_settling m.body) (messages_in (f l).said) (messages_in (g (f l).local).said)
          first.said next.said);
    }

each_still : {A : Type 0} (f : A → Local → Reaction) (xs : List A) → ((x : A) → AreStill (f x)) → AreStill (each f xs)
each_still f [] a l u = stays_still l u
each_still f (x ∷ xs) a l u = seq (f x) (each f xs) (a x) (each_still f xs a) l u

pub if_still : (b : Bool) (r s : Reaction) → IsStill r → IsStill s → IsStill (if b then r else s)
if_still true r s e d = e
if_still false r s e d = d

chosen_still : (b : Bool) (f g : Local → Reaction) → AreStill f → AreStill g → AreStill (if b then f else g)
chosen_still true f g a c l u = a l u
chosen_still false f g a c l u = c l u

only_if_still : (b : Bool) (f : Local → Reaction) → AreStill f → AreStill (only_if b f)
only_if_still b f a l u = if_still b (f l) (stays l) (a l u) (stays_still l u)

where_some_still : {A : Type 0} (f : A → Local → Reaction) (o : Option A) → ((x : A) → AreStill (f x)) → AreStill (where_some f o)
where_some_still f None a l u = stays_still l u
where_some_still f (Some x) a l u = a x l u

-- ---- sending

send_in_still : (epoch : ℕ) (here : Here) (to : ℕ) (body : Body) → is_of_settling body ≡ false → AreStill (send_in epoch here to body)
unfolding send_in
send_in_still epoch here to body plain l u = record { settling = u; said = or_from (is_of_settling body) false plain refl }

send_all_still : (epoch : ℕ) (here : Here) (to : List ℕ) (body : Body) → is_of_settling body ≡ false
    → AreStill (send_all epoch here to body)
send_all_still epoch here to body plain =
    each_still (λ i. send_in epoch here i body) to (λ i. send_in_still epoch here i body plain)

-- ---- notices

by_replica_still : (f : NodeContext → ReplicaLocal → ReplicaReaction) (here : Here) → AreStill (by_replica f here)
by_replica_still f here l u = record {
  settling = u;
  said = ap (λ (ms : List Message). list_any (λ (m : Message). is_of_settling m.body) ms)
      (none_said (f (replica_here here) (replica_local here l)).said);
}

recorded_still : (here : Here) (key : EntryKey) (firing resolved : List (List Label)) (span : ℕ)
    → AreStill (recorded here key firing resolved span)
unfolding recorded
recorded_still here key firing resolved span l u =
    seq (by_replica (λ h. replica.recorded h key firing resolved span) here)
    (send_all here.epoch here (others here) (Put 0 (entry_of here key firing resolved span l ∷ [])))
    (by_replica_still (λ h. replica.recorded h key firing resolved span) here)
    (send_all_still here.epoch here (others here) (Put 0 (entry_of here key firing resolved span l ∷ [])) refl) l u

told_still : (here : Here) (telling : Telling) → AreStill (told here telling)
told_still here (Notify notice) = by_replica_still (λ h. replica.notified h notice) here
told_still here (Keep key span) = recorded_still here key [] [] span

concluded_still : (here : Here) (o : Outcome) → AreStill (concluded here o)
concluded_still here NotOpen = stays_still
concluded_still here (Delivered notice) = recorded_still here notice.key notice.firing notice.resolved notice.span
concluded_still here (Again due) = stays_still
concluded_still here GivenUp = stays_still

pub outcome_still : (here : Here) (number tries : ℕ) (status : Option ℕ) → AreStill (outcome here number tries status)
unfolding outcome
outcome_still here number tries status l u =
    concluded_still here (outcome_of number tries here.moment status l.desk.open_ones)
    (record l { desk = after_outcome number tries here.moment status l.desk }) u

flushed_still : (here : Here) (muted : List (List Label)) (group : Group) → AreStill (flushed here muted group)
unfolding flushed
flushed_still here muted group l u =
    each_still (told here)
    (tellings (configuration_in l.held) group (sent_among l.held) (members_but muted group (replica_local here l)) here.moment)
    (told_still here) (begun here group l) u

-- ---- operations

finish_still : (bytes : List ℕ) (operation : Operation) → AreStill (finish bytes operation)
unfolding finish
finish_still bytes operation l u = record { settling = u; said = refl }

pub start_still : (here : Here) (connection : ℕ) (request : Request) → AreStill (start here connection request)
unfolding start
start_still here connection request l u =
    let operation : Operation = operation_for here connection request (l.ledger.operations + 1) in
    seq (begin operation) (send_all here.epoch here here.three (Get operation.number)) (λ k v. record { settling = v; said = refl })
    (send_all_still here.epoch here here.three (Get operation.number) refl) l u

carried_still : (here : Here) (operation : Operation) (decision : Decision) → AreStill (carry_out here operation decision)
unfolding carry_out
carried_still here operation decision l u =
    let bytes : List ℕ = reply decision.status decision.body in
    let put : Local → Reaction = send_all operation.epoch here here.three (Put operation.number decision.items) in
    seq (stamp decision) (if length decision.items == 0 then finish bytes operation else (wait_with bytes operation >> put))
    (λ k v. record { settling = v; said = refl })
    (chosen_still (length decision.items == 0) (finish bytes operation) (wait_with bytes operation >> put)
    (finish_still bytes operation)
    (seq (wait_with bytes operation) put (λ k v. record { settling = v; said = refl })
    (send_all_still operation.epoch here here.three (Put operation.number decision.items) refl))) l u

first_answer_same : (operation : Operation) (stage : Stage) (answer : Answered) (l : Local)
    → (first_answer operation stage answer l).settling ≡ l.settling
first_answer_same operation (Undecided None) answer l = refl
first_answer_same operation (Undecided (Some first)) answer l = refl
first_answer_same operation (Decided reply first) answer l = refl

answer_by_still : (decide : Decide) (here : Here) (operation : Operation) (answer : Answered) (list : Option (List Item))
    → AreStill (answer_by decide here operation answer list)
answer_by_still decide here operation answer None l u =
    record { settling = first_answer_same operation operation.stage answer l ∙ u; said = refl }
answer_by_still decide here operation answer (Some list) l u =
    carried_still here operation (decide here operation.request list l) l u

answered_still : (decide : Decide) (here : Here) (number epoch : ℕ) (answer : Answered)
    → AreStill (answered decide here number epoch answer)
unfolding answered
answered_still decide here number epoch answer l u =
    where_some_still (λ (o : Operation). answer_by decide here o answer (list_for o.stage answer))
    (operation_of number epoch l.operations) (λ o. answer_by_still decide here o answer (list_for o.stage answer)) l u

first_ack_same : (operation : Operation) (stage : Stage) (from : ℕ) (l : Local)
    → (first_ack operation stage from l).settling ≡ l.settling
first_ack_same operation (Undecided first) from l = refl
first_ack_same operation (Decided reply None) from l = refl
first_ack_same operation (Decided reply (Some first)) from l = refl

ack_by_still : (operation : Operation) (from : ℕ) (bytes : Option (List ℕ)) → AreStill (ack_by operation from bytes)
ack_by_still operation from None l u = record { settling = first_ack_same operation operation.stage from l ∙ u; said = refl }
ack_by_still operation from (Some bytes) l u = finish_still bytes operation l u

acked_still : (number epoch from : ℕ) → AreStill (acked number epoch from)
unfolding acked
acked_still number epoch from l u =
    where_some_still (λ (o : Operation). ack_by o from (reply_for o.stage from))
    (operation_of number epoch l.operations) (λ o. ack_by_still o from (reply_for o.stage from)) l u

-- ---- settling

-- the replicas are those that have stayed
abbrev pub HasStayed : Here → Type 0
HasStayed here = here.stayed ≡ is_replica_here here

asks_first_still : (here : Here) → HasStayed here → AreStill (asks_first here)
asks_first_still here e l u = subst IsStill (sym (nobody_asks here l e)) (stays_still l u)

not_both : (a c : Bool) → (a && not (a || c)) ≡ false
not_both true c = refl
not_both false c = refl

pub forced_still : (here : Here) → HasStayed here → AreStill (forced here)
unfolding forced
forced_still here e l u =
    subst (λ b. IsStill (stays (if b then with_settling (now_settled l.settling) l else l)))
    (sym (ap (λ b. is_replica_here here && not (b || l.settling.has_settled)) e ∙ not_both (is_replica_here here) l.settling.has_settled))
    (stays_still l u)

-- ---- ticks

again_still : (here : Here) (to : ℕ) → AreStill (λ l. send_again here to (at_number to l.settling.pushes) l)
again_still here to l u =
    subst (λ (o : Option Push). IsStill (send_again here to o l)) (sym (ap (λ (s : Settling). at_number to s.pushes) u))
    (subst (λ b. IsStill (only_if b (ask here to) l))
    (sym (ap (λ (s : Settling). is_among to (if is_some s.asked_at then lacking (others here) s else [])) u)) (stays_still l u))

handled_still : (here : Here) (muted : List (List Label)) (key : Key) → AreStill (handled here muted key)
unfolding handled
handled_still here muted (OperationKey number) l u =
    where_some_still timed_out (operation_at number l.operations) (finish_still (unavailable (codes "Q1"))) l u
handled_still here muted (GroupKey key) l u =
    only_if_still (is_flush_due here key l) (flushed here muted (group_in key)) (flushed_still here muted (group_in key)) l u
handled_still here muted (RetryKey number) l u = by_replica_still (λ h. replica.retried h number) here l u
handled_still here muted (PushKey to) l u = again_still here to l u

pub ticked_still : (here : Here) → AreStill (ticked here)
unfolding ticked retired
ticked_still here l u =
    each_still (handled here (muted_of here (retired here.moment l))) (due_keys here (retired here.moment l))
    (handled_still here (muted_of here (retired here.moment l))) (retired here.moment l) u

-- ---- messages

answer_get_still : (here : Here) (asker : Peer) (operation : ℕ) → AreStill (answer_get here asker operation)
answer_get_still here asker operation l u =
    only_if_still (is_settled here l) (send here asker.instance (Answer operation asker.incarnation l.held))
    (send_in_still here.epoch here asker.instance (Answer operation asker.incarnation l.held) refl) l u

take_put_still : (here : Here) (sender : Peer) (operation : ℕ) (items : List Item) → AreStill (take_put here sender operation items)
unfolding accepted
take_put_still here sender operation items l u =
    only_if_still (not (operation == 0)) (send here sender.instance (Ack operation sender.incarnation))
    (send_in_still here.epoch here sender.instance (Ack operation sender.incarnation) refl) (accepted here.moment items l) u

does_still : (decide : Decide) (here : Here) (message : Message) (body : Body) → is_of_settling body ≡ false
    → AreStill (does decide here message body)
does_still decide here message (Get operation) plain = answer_get_still here (peer message.from message.incarnation) operation
does_still decide here message (Answer operation incarnation items) plain =
    answered_still decide here operation message.epoch (record { from = message.from; items = items })
does_still decide here message (Put operation items) plain =
    take_put_still here (peer message.from message.incarnation) operation items
does_still decide here message (Ack operation incarnation) plain = acked_still operation message.epoch message.from
does_still decide here message (Ask incarnation) plain = absurd (true≢false plain)
does_still decide here message (State incarnation place is_last items) plain = absurd (true≢false plain)
does_still decide here message (Got incarnation place) plain = absurd (true≢false plain)

arrive_as_still : (a : Arrival) (decide : Decide) (here : Here) (message : Message) → is_of_settling message.body ≡ false
    → HasStayed here → AreStill (arrive_as a decide here message)
arrive_as_still Dropped decide here message plain e = stays_still
arrive_as_still Counted decide here message plain e = does_still decide here message message.body plain
arrive_as_still Taken decide here message plain e =
    seq (does decide here message message.body) (asks_first here) (does_still decide here message message.body plain)
    (asks_first_still here e)

pub arrive_still : (decide : Decide) (here : Here) (message : Message) → is_of_settling message.body ≡ false → HasStayed here
    → AreStill (arrive decide here message)
unfolding arrive
arrive_still decide here message plain e l u = arrive_as_still (arrival here message l) decide here message plain e l u
