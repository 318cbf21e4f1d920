-- What leaves the moments since which alerts are held, who is settled, and whether it asked; what was in order stays so then.
use Rattle.std.proofs.Common.{◌≡◌, ℕ, ◌+◌, ◌<◌, ◌==◌, ◌&&◌, ◌||◌, Bool, true, false, List, [], ◌∷◌, length, Option, Some, None, is_some, option_map, unwrap_or, ap, refl, sym, subst, ◌∙◌, if◌then◌else◌}
use Rattle.std.specs.Prelude.{codes}
use Rattle.am_api.specs.Replied.{Decision}
use Rattle.am_cluster.specs.Arriving.{answer_get}
use Rattle.am_cluster.specs.Delivery.{concluded, entry_of, outcome, recorded, told}
use Rattle.am_cluster.specs.Flushing.{begun, flushed}
use Rattle.am_cluster.specs.Here.{Here, is_replica_here, others, peer_now, position_here}
use Rattle.am_cluster.specs.Local.{Local, holds_any, is_settled}
use Rattle.am_cluster.specs.Messages.{Answer, Body, Get, Put}
use Rattle.am_cluster.specs.Operating.{Decide, ack_by, acked, answer_by, answered, begin, carry_out, finish, first_ack, first_answer, list_for, operation_for, replicas_changed, reply_for, stamp, start, timed_out, unavailable, wait_with}
use Rattle.am_cluster.specs.Operations.{Answered, Decided, Operation, Stage, Undecided, operation_at, operation_of}
use Rattle.am_cluster.specs.Plans.{by_replica, replica_local}
use Rattle.am_cluster.specs.Reactions.{Reaction, each, stays, where_some, ◌>>◌}
use Rattle.am_cluster.specs.RingChanges.{end_push, other_restarted, push_if_settled}
use Rattle.am_cluster.specs.Sending.{send, send_all, send_in}
use Rattle.am_cluster.specs.Transfers.{answer_ask, begin_push, push, send_piece, send_state, take_got}
use Rattle.am_context.proofs.Changes.{own}
use Rattle.am_current.specs.Current.{configuration_in}
use Rattle.am_http.specs.Replies.{reply}
use Rattle.am_http.specs.declared.request.Request.{Request}
use Rattle.am_item.specs.declared.entry.EntryKey.{EntryKey}
use Rattle.am_item.specs.declared.item.Item.{Item}
use Rattle.am_labels.specs.declared.Label.{Label}
use Rattle.am_members.specs.declared.group.Group.{Group}
use Rattle.am_node.specs.Delivery as replica
use Rattle.am_node.specs.Flushing.{members_but}
use Rattle.am_notifier.specs.Flushing.{sent_among}
use Rattle.am_outlet.specs.Attempts.{after_outcome, outcome_of}
use Rattle.am_outlet.specs.declared.outcome.Outcome.{Outcome}
use Rattle.am_outlet.specs.declared.outcome.Outcome.TheVariants.{NotOpen, Delivered, Again, GivenUp}
use Rattle.am_telling.specs.Tellings.{tellings}
use Rattle.am_telling.specs.declared.telling.Telling.{Telling}
use Rattle.am_telling.specs.declared.telling.Telling.TheVariants.{Notify, Keep}
use Rattle.am_ring.specs.Instances.{is_among}
use Rattle.am_transfer.specs.Peers.{Peer, at_peer}
use Rattle.am_transfer.specs.Pieces.{Piece, SentList, named_at, pieces_to_send}
use Rattle.am_transfer.specs.Settling.{ended_by, list_for as sent_list_for, with_list, with_push, without_push}
use Rattle.am_site.specs.InOrder.{IsInOrder, IsSound}
use Rattle.am_site.specs.Locals.{local_of}
use Rattle.am_site.specs.Reacting.{Reacts}
use Rattle.am_site.specs.declared.said.Said.{Said as Spoken}
use Rattle.am_site.specs.declared.site.Site.{Site}
use Rattle.am_site.proofs.Sound.{KeepsSound}

-- the moments, and what of settling is looked at, are the same
abbrev pub IsLike : Local → Local → Type 0
IsLike l m =
    (m.sinces ≡ l.sinces) × ((m.settling.has_settled ≡ l.settling.has_settled) × (m.settling.asked_at ≡ l.settling.asked_at))

abbrev pub IsQuiet : (Local → Reaction) → Type 0
IsQuiet react = (l : Local) → IsLike l (react l).local

like_both : (a b c : Local) → IsLike a b → IsLike b c → IsLike a c
like_both a b c one two = (two.0 ∙ one.0, (two.1.0 ∙ one.1.0, two.1.1 ∙ one.1.1))

pub like_itself : (l : Local) → IsLike l l
like_itself l = (refl, (refl, refl))

-- ---- in order

-- what was sound is where this happens
pub quiet_in_order_where : (here : Here) (react : Local → Reaction) (old new : Site) (x y : List Spoken) → IsQuiet react
    → (IsSound here (local_of here.tenant old) → IsSound here (react (local_of here.tenant old)).local)
    → Reacts here.tenant react old new x y → IsInOrder here old → IsInOrder here new
quiet_in_order_where here react old new x y quiet keeps reacts order =
    let made : local_of here.tenant new ≡ (react (local_of here.tenant old)).local = own here.tenant _ _ _ (reacts.local here.tenant) in
    let like : IsLike (local_of here.tenant old) (react (local_of here.tenant old)).local = quiet (local_of here.tenant old) in
    record {
      position = λ some.
          reacts.keeps.positions here.tenant
          ∙ order.position (subst (λ n. 0 < n) (ap (λ (l : Local). length l.sinces) made ∙ ap length like.0) some)
          ∙ ap (λ b. if here.stayed || b then position_here here else None) (sym (ap (λ (l : Local). l.settling.has_settled) made ∙ like.1.0));
      asked = λ some.
          reacts.keeps.asked here.tenant
          ∙ order.asked (ap is_some (sym (ap (λ (l : Local). l.settling.asked_at) made ∙ like.1.1)) ∙ some);
      sound = subst (IsSound here) (sym made) (keeps order.sound);
    }

-- .. and wherever it happens
pub quiet_in_order : (here : Here) (react : Local → Reaction) (old new : Site) (x y : List Spoken) → IsQuiet react → KeepsSound here react
    → Reacts here.tenant react old new x y → IsInOrder here old → IsInOrder here new
quiet_in_order here react old new x y quiet keeps = quiet_in_order_where here react old new x y quiet (keeps (local_of here.tenant old))

-- ---- parts

pub seq_quiet : (f g : Local → Reaction) → IsQuiet f → IsQuiet g → IsQuiet (f >> g)
seq_quiet f g one two l = like_both l (f l).local (g (f l).local).local (one l) (two (f l).local)

pub each_quiet : {A : Type 0} (f : A → Local → Reaction) → ((x : A) → IsQuiet (f x)) → (xs : List A) → IsQuiet (each f xs)
each_quiet f one [] l = like_itself l
each_quiet f one (x ∷ xs) l = like_both l (f x l).local (each f xs (f x l).local).local (one x l) (each_quiet f one xs (f x l).local)

pub if_quiet : (b : Bool) (f g : Local → Reaction) → IsQuiet f → IsQuiet g → (l : Local) → IsLike l (if b then f l else g l).local
if_quiet true f g one two l = one l
if_quiet false f g one two l = two l

either_quiet : (b : Bool) (f g : Local → Reaction) → IsQuiet f → IsQuiet g → IsQuiet (if b then f else g)
either_quiet true f g one two = one
either_quiet false f g one two = two

where_quiet : {A : Type 0} (f : A → Local → Reaction) → ((x : A) → IsQuiet (f x)) → (found : Option A) (l : Local) → IsLike l (where_some f found l).local
where_quiet f one None l = like_itself l
where_quiet f one (Some x) l = one x l

sends_quiet : (epoch : ℕ) (here : Here) (to : ℕ) (body : Body) → IsQuiet (send_in epoch here to body)
unfolding send_in
sends_quiet epoch here to body l = (refl, (refl, refl))

pub all_quiet : (epoch : ℕ) (here : Here) (to : List ℕ) (body : Body) → IsQuiet (send_all epoch here to body)
all_quiet epoch here to body l = each_quiet (λ i. send_in epoch here i body) (λ i. sends_quiet epoch here i body) to l

pub finish_quiet : (bytes : List ℕ) (o : Operation) → IsQuiet (finish bytes o)
unfolding finish
finish_quiet bytes o l = (refl, (refl, refl))

module _ (here : Here) where
  -- ---- operations

  pub start_quiet : (connection : ℕ) (request : Request) → IsQuiet (start here connection request)
  unfolding start
  start_quiet connection request l =
      seq_quiet (begin (operation_for here connection request (l.ledger.operations + 1)))
      (send_all here.epoch here here.three (Get (l.ledger.operations + 1))) (λ m. (refl, (refl, refl)))
      (all_quiet here.epoch here here.three (Get (l.ledger.operations + 1))) l

  pub given_up_quiet : (number : ℕ) → IsQuiet (λ l. where_some timed_out (operation_at number l.operations) l)
  given_up_quiet number l = where_quiet timed_out (λ o. finish_quiet _ o) (operation_at number l.operations) l

  first_ack_like : (o : Operation) (stage : Stage) (from : ℕ) (l : Local) → IsLike l (first_ack o stage from l)
  first_ack_like o (Undecided first) from l = like_itself l
  first_ack_like o (Decided reply None) from l = (refl, (refl, refl))
  first_ack_like o (Decided reply (Some first)) from l = like_itself l

  ack_quiet : (o : Operation) (from : ℕ) (bytes : Option (List ℕ)) → IsQuiet (ack_by o from bytes)
  ack_quiet o from None l = first_ack_like o o.stage from l
  ack_quiet o from (Some bytes) l = finish_quiet bytes o l

  pub acked_quiet : (number epoch from : ℕ) → IsQuiet (acked number epoch from)
  unfolding acked
  acked_quiet number epoch from l =
      where_quiet (λ (o : Operation). ack_by o from (reply_for o.stage from)) (λ o. ack_quiet o from (reply_for o.stage from)) (operation_of number epoch l.operations) l

  first_answer_like : (o : Operation) (stage : Stage) (answer : Answered) (l : Local) → IsLike l (first_answer o stage answer l)
  first_answer_like o (Undecided None) answer l = (refl, (refl, refl))
  first_answer_like o (Undecided (Some first)) answer l = like_itself l
  first_answer_like o (Decided reply first) answer l = like_itself l

  carried_quiet : (o : Operation) (d : Decision) → IsQuiet (carry_out here o d)
  unfolding carry_out
  carried_quiet o d l =
      let bytes : List ℕ = reply d.status d.body in
      let waits : Local → Reaction = wait_with bytes o >> send_all o.epoch here here.three (Put o.number d.items) in
      seq_quiet (stamp d) (if length d.items == 0 then finish bytes o else waits) (λ m. (refl, (refl, refl)))
      (either_quiet (length d.items == 0) (finish bytes o) waits (finish_quiet bytes o)
      (seq_quiet (wait_with bytes o) (send_all o.epoch here here.three (Put o.number d.items)) (λ m. (refl, (refl, refl)))
      (all_quiet o.epoch here here.three (Put o.number d.items)))) l

  answer_quiet : (decide : Decide) (o : Operation) (answer : Answered) (list : Option (List Item)) → IsQuiet (answer_by decide here o answer list)
  answer_quiet decide o answer None l = first_answer_like o o.stage answer l
  answer_quiet decide o answer (Some list) l = carried_quiet o (decide here o.request list l) l

  pub answered_quiet : (decide : Decide) (number epoch : ℕ) (answer : Answered) → IsQuiet (answered decide here number epoch answer)
  unfolding answered
  answered_quiet decide number epoch answer l =
      where_quiet (λ (o : Operation). answer_by decide here o answer (list_for o.stage answer)) (λ o. answer_quiet decide o answer (list_for o.stage answer))
      (operation_of number epoch l.operations) l

  -- ---- what it answers as a replica

  pub got_quiet : (asker : Peer) (operation : ℕ) → IsQuiet (answer_get here asker operation)
  got_quiet asker operation l =
      if_quiet (is_settled here l) (send here asker.instance (Answer operation asker.incarnation l.held)) stays
      (sends_quiet here.epoch here asker.instance (Answer operation asker.incarnation l.held)) like_itself l

  piece_quiet : (receiver : Peer) (p : Piece) → IsQuiet (send_piece here receiver p)
  unfolding send_in
  piece_quiet receiver p l = (refl, (refl, refl))

  state_quiet : (is_asked : Bool) (receiver : Peer) → IsQuiet (send_state here is_asked receiver)
  unfolding send_state
  state_quiet is_asked receiver l =
      each_quiet (send_piece here receiver) (piece_quiet receiver) (pieces_to_send is_asked (sent_list_for receiver l.held l.settling))
      (record l { settling = with_list receiver (sent_list_for receiver l.held l.settling) l.settling })

  pub push_quiet : (receiver : Peer) → IsQuiet (push here receiver)
  unfolding push
  push_quiet receiver l =
      state_quiet false receiver (record l { settling = with_push receiver.instance receiver.incarnation here.moment l.settling })

  pub answer_ask_quiet : (asker : Peer) → IsQuiet (answer_ask here asker)
  unfolding answer_ask
  answer_ask_quiet asker l = if_quiet (is_settled here l) (send_state here true asker) stays (state_quiet true asker) like_itself l

  pub begins_quiet : (to : ℕ) → IsQuiet (begin_push here to)
  begins_quiet to = push_quiet (peer_now here to)

  push_if_quiet : (to : ℕ) → IsQuiet (push_if_settled here to)
  push_if_quiet to l =
      if_quiet (is_replica_here here && (is_settled here l && holds_any l)) (begin_push here to) stays (begins_quiet to) like_itself l

  ended_like : (b : Bool) (receiver : Peer) (list : SentList) (l : Local)
      → IsLike l (record l { settling = if b then without_push receiver.instance (with_list receiver list l.settling) else with_list receiver list l.settling })
  ended_like true receiver list l = (refl, (refl, refl))
  ended_like false receiver list l = (refl, (refl, refl))

  named_like : (receiver : Peer) (place : ℕ) (l : Local) (found : Option SentList)
      → IsLike l (record l { settling = unwrap_or (option_map (λ list. ended_by receiver (named_at place list) l.settling) found) l.settling })
  named_like receiver place l None = like_itself l
  named_like receiver place l (Some list) = ended_like (named_at place list).is_ended receiver (named_at place list) l

  pub take_got_quiet : (receiver : Peer) (place : ℕ) → IsQuiet (take_got here receiver place)
  unfolding take_got
  take_got_quiet receiver place l = named_like receiver place l (at_peer receiver l.settling.lists)

  -- ---- restarts

  changed_quiet : IsQuiet replicas_changed
  unfolding replicas_changed
  changed_quiet l = each_quiet (finish (unavailable (codes "Q2"))) (finish_quiet (unavailable (codes "Q2"))) l.operations l

  pub restarted_quiet : (r : ℕ) → IsQuiet (other_restarted here r)
  unfolding other_restarted
  restarted_quiet r l =
      if_quiet (is_among r here.three) (replicas_changed >> (end_push r >> push_if_settled here r)) stays
      (seq_quiet replicas_changed (end_push r >> push_if_settled here r) changed_quiet
      (seq_quiet (end_push r) (push_if_settled here r) (λ m. (refl, (refl, refl))) (push_if_quiet r))) like_itself l

  -- ---- notices

  recorded_quiet : (key : EntryKey) (firing resolved : List (List Label)) (span : ℕ) → IsQuiet (recorded here key firing resolved span)
  unfolding recorded
  recorded_quiet key firing resolved span l =
      let entry : Item = entry_of here key firing resolved span l in
      seq_quiet (by_replica (λ h. replica.recorded h key firing resolved span) here) (send_all here.epoch here (others here) (Put 0 (entry ∷ [])))
      (λ m. (refl, (refl, refl))) (all_quiet here.epoch here (others here) (Put 0 (entry ∷ []))) l

  concluded_quiet : (o : Outcome) → IsQuiet (concluded here o)
  concluded_quiet NotOpen l = like_itself l
  concluded_quiet (Delivered notice) l = recorded_quiet notice.key notice.firing notice.resolved notice.span l
  concluded_quiet (Again due) l = like_itself l
  concluded_quiet GivenUp l = like_itself l

  pub outcome_quiet : (number tries : ℕ) (status : Option ℕ) → IsQuiet (outcome here number tries status)
  unfolding outcome
  outcome_quiet number tries status l =
      concluded_quiet (outcome_of number tries here.moment status l.desk.open_ones) (record l { desk = after_outcome number tries here.moment status l.desk })

  told_quiet : (telling : Telling) → IsQuiet (told here telling)
  told_quiet (Notify notice) l = (refl, (refl, refl))
  told_quiet (Keep key span) l = recorded_quiet key [] [] span l

  pub flushed_quiet : (muted : List (List Label)) (group : Group) → IsQuiet (flushed here muted group)
  unfolding flushed
  flushed_quiet muted group l =
      each_quiet (told here) told_quiet
      (tellings (configuration_in l.held) group (sent_among l.held) (members_but muted group (replica_local here l)) here.moment) (begun here group l)
