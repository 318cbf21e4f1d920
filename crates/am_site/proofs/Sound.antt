-- What is sound of what an instance has of a tenant stays so: one thing after the other, and as messages go out, notices are told, and operations come and go.
use Rattle.std.proofs.Common.{◌≡◌, ℕ, ◌+◌, ◌<◌, ◌≤◌, ◌==◌, ◌||◌, Bool, true, false, not, cond, List, [], ◌∷◌, ◌++◌, length, Option, Some, None, Less, arith, nat_cmp, ap, refl, sym, subst, ◌∙◌, if◌then◌else◌}
use Rattle.std.specs.List.{All, AllByRecursion, filter}
use Rattle.std.specs.List.Sorted.{IsStrictlySortedBy}
use Rattle.std.specs.Map.{keys_of}
use Rattle.std.proofs.lemmas.Bool.Decides.{nat_tests}
use Rattle.std.proofs.lemmas.List.Elements.{All-filter, All-head, All-nil, All-push, All-tail, All-weaker}
use Rattle.std.proofs.lemmas.List.Kept.{IsStrictlySortedBy-filter}
use Rattle.am_api.specs.Replied.{Decision}
use Rattle.am_cluster.specs.Accepting.{accepted}
use Rattle.am_cluster.specs.Delivery.{concluded, entry_of, outcome, recorded, retried, told}
use Rattle.am_cluster.specs.Flushing.{begun, flushed}
use Rattle.am_cluster.specs.Here.{Here, others}
use Rattle.am_cluster.specs.Local.{Local, blank, with_operations}
use Rattle.am_cluster.specs.Messages.{Body, Get, Put}
use Rattle.am_cluster.specs.Operating.{Decide, ack_by, acked, answer_by, answered, at_stage, begin, carry_out, finish, first_ack, first_answer, list_for, operation_for, replicas_changed, reply_for, stamp, start, timed_out, unavailable, wait_with}
use Rattle.am_cluster.specs.Operations.{Answered, Decided, Operation, Stage, Undecided, operation_at, operation_of, with_operation, without_operation}
use Rattle.am_cluster.specs.Plans.{by_replica, replica_local}
use Rattle.am_cluster.specs.Reactions.{Reaction, each, only_if, provided, stays, where_some, ◌>>◌}
use Rattle.am_cluster.specs.Retiring.{retired}
use Rattle.am_cluster.specs.Sending.{send_all, send_in}
use Rattle.am_context.specs.declared.context.Context.{Context as NodeContext}
use Rattle.am_current.specs.Current.{configuration_in}
use Rattle.am_http.specs.Replies.{reply}
use Rattle.am_http.specs.declared.request.Request.{Request}
use Rattle.am_item.specs.declared.entry.EntryKey.{EntryKey}
use Rattle.am_item.specs.declared.item.Item.{Item}
use Rattle.am_labels.specs.declared.Label.{Label}
use Rattle.am_members.specs.declared.group.Group.{Group}
use Rattle.am_node.specs.Delivery as replica
use Rattle.am_node.specs.Flushing.{members_but}
use Rattle.am_node.specs.Local.{Local as ReplicaLocal, Reaction as ReplicaReaction}
use Rattle.am_notifier.specs.Flushing.{sent_among}
use Rattle.am_outlet.specs.Attempts.{after_outcome, outcome_of}
use Rattle.am_outlet.specs.declared.outcome.Outcome.{Outcome}
use Rattle.am_outlet.specs.declared.outcome.Outcome.TheVariants.{NotOpen, Delivered, Again, GivenUp}
use Rattle.am_telling.specs.Tellings.{tellings}
use Rattle.am_telling.specs.declared.telling.Telling.{Telling}
use Rattle.am_telling.specs.declared.telling.Telling.TheVariants.{Notify, Keep}
use Rattle.am_transfer.specs.Settling.{Settling}
use Rattle.std.specs.Prelude.{codes}
use Rattle.am_site.specs.InOrder.{IsSound, numbers_of}

-- ---- numbers

same_number : (a b : ℕ) → (a == b) ≡ true → b ≡ a
same_number a b is = grind (arith, nat_tests)

-- an operation in the place of the one of its number
with_numbers : (o : Operation) (those : List Operation) → numbers_of (with_operation o those) ≡ numbers_of those
with_numbers o [] = refl
with_numbers o (x ∷ xs) = by (x.number == o.number) refl ∙ ap (λ ns. x.number ∷ ns) (with_numbers o xs)
  where
    by : (b : Bool) → (x.number == o.number) ≡ b → (if b then o else x).number ∷ numbers_of (with_operation o xs) ≡ x.number ∷ numbers_of (with_operation o xs)
    by true is = ap (λ n. n ∷ numbers_of (with_operation o xs)) (same_number x.number o.number is)
    by false is = refl

without_numbers : (n : ℕ) (those : List Operation) → numbers_of (without_operation n those) ≡ filter (λ m. not (m == n)) (numbers_of those)
without_numbers n [] = refl
without_numbers n (x ∷ xs) = by (not (x.number == n)) ∙ ap (λ ns. cond (not (x.number == n)) (x.number ∷ ns) ns) (without_numbers n xs)
  where
    by : (b : Bool) → numbers_of (cond b (x ∷ without_operation n xs) (without_operation n xs))
        ≡ cond b (x.number ∷ numbers_of (without_operation n xs)) (numbers_of (without_operation n xs))
    by true = refl
    by false = refl

one_more_number : (o : Operation) (those : List Operation) → numbers_of (those ++ o ∷ []) ≡ numbers_of those ++ o.number ∷ []
one_more_number o [] = refl
one_more_number o (x ∷ xs) = ap (λ ns. x.number ∷ ns) (one_more_number o xs)

above_all : (m n : ℕ) (ns : List ℕ) → nat_cmp m n ≡ Less → AllByRecursion (λ k. nat_cmp m k ≡ Less) ns → AllByRecursion (λ k. nat_cmp m k ≡ Less) (ns ++ n ∷ [])
above_all m n [] below all = (below, tt)
above_all m n (k ∷ ns) below all = (all.0, above_all m n ns below all.1)

-- one that is above all comes last
rising_more : (used n : ℕ) (ns : List ℕ) → used < n → All (λ m. m ≤ used) ns → IsStrictlySortedBy nat_cmp ns → IsStrictlySortedBy nat_cmp (ns ++ n ∷ [])
unfolding IsStrictlySortedBy
rising_more used n [] past all up = (tt, tt)
rising_more used n (m ∷ ns) past all up = (
  above_all m n ns (below m (All-head (λ k. k ≤ used) m ns all)) up.0,
  rising_more used n ns past (All-tail (λ k. k ≤ used) m ns all) up.1,
)
  where
    below : (m : ℕ) → m ≤ used → nat_cmp m n ≡ Less
    below m within = grind (arith, nat_tests)

-- ---- what is kept

abbrev pub KeepsSound : Here → (Local → Reaction) → Type 0
KeepsSound here f = (l : Local) → IsSound here l → IsSound here (f l).local

-- nothing changed of what is looked at
pub sound_as : (here : Here) (l m : Local) → m.operations ≡ l.operations → m.ledger.operations ≡ l.ledger.operations → m.settling ≡ l.settling → IsSound here l → IsSound here m
sound_as here l m operations used settling sound = record {
  numbered = subst (λ (those : List Operation). IsStrictlySortedBy nat_cmp (numbers_of those)) (sym operations) sound.numbered;
  used = subst (λ u. All (λ n. n ≤ u) (numbers_of m.operations)) (sym used)
      (subst (λ (those : List Operation). All (λ n. n ≤ l.ledger.operations) (numbers_of those)) (sym operations) sound.used);
  pushes = subst (λ (s : Settling). IsStrictlySortedBy nat_cmp (keys_of s.pushes)) (sym settling) sound.pushes;
  apart = subst (λ (s : Settling). (here.stayed || s.has_settled) ≡ false → s.pushes ≡ []) (sym settling) sound.apart;
  quiet = subst (λ (s : Settling). (here.stayed || s.has_settled) ≡ true → s.asked_at ≡ None) (sym settling) sound.quiet;
}

-- at another moment, by other limits, and under another ring in which it is the same replica
pub sound_at : (h k : Here) (l : Local) → k.stayed ≡ h.stayed → IsSound h l → IsSound k l
sound_at h k l stayed sound = record {
  numbered = sound.numbered;
  used = sound.used;
  pushes = sound.pushes;
  apart = λ unsettled. sound.apart (ap (λ b. b || l.settling.has_settled) (sym stayed) ∙ unsettled);
  quiet = λ settled. sound.quiet (ap (λ b. b || l.settling.has_settled) (sym stayed) ∙ settled);
}

-- other operations are open
others_sound : (here : Here) (l : Local) (those : List Operation) → IsStrictlySortedBy nat_cmp (numbers_of those) → All (λ n. n ≤ l.ledger.operations) (numbers_of those)
    → IsSound here l → IsSound here (with_operations those l)
others_sound here l those numbered used sound = record { numbered = numbered; used = used; pushes = sound.pushes; apart = sound.apart; quiet = sound.quiet }

pub blank_sound : (here : Here) → IsSound here blank
unfolding IsStrictlySortedBy
blank_sound here = record { numbered = tt; used = All-nil (λ n. n ≤ 0); pushes = tt; apart = λ unsettled. refl; quiet = λ settled. refl }

module _ (here : Here) where
  -- ---- one thing after the other

  pub stays_sound : KeepsSound here stays
  stays_sound l sound = sound

  pub in_turn_sound : (f g : Local → Reaction) → KeepsSound here f → KeepsSound here g → KeepsSound here (f >> g)
  in_turn_sound f g one two l sound = two (f l).local (one l sound)

  pub each_sound : {A : Type 0} (f : A → Local → Reaction) (xs : List A) → ((x : A) → KeepsSound here (f x)) → KeepsSound here (each f xs)
  each_sound f [] one l sound = sound
  each_sound f (x ∷ xs) one l sound = each_sound f xs one (f x l).local (one x l sound)

  pub if_sound : (b : Bool) (f g : Local → Reaction) → KeepsSound here f → KeepsSound here g → (l : Local) → IsSound here l → IsSound here (if b then f l else g l).local
  if_sound true f g one two l sound = one l sound
  if_sound false f g one two l sound = two l sound

  pub either_sound : (b : Bool) (f g : Local → Reaction) → KeepsSound here f → KeepsSound here g → KeepsSound here (if b then f else g)
  either_sound true f g one two = one
  either_sound false f g one two = two

  pub only_if_sound : (b : Bool) (f : Local → Reaction) → KeepsSound here f → KeepsSound here (only_if b f)
  only_if_sound b f one l sound = if_sound b f stays one stays_sound l sound

  pub where_some_sound : {A : Type 0} (f : A → Local → Reaction) (found : Option A) → ((x : A) → KeepsSound here (f x)) → KeepsSound here (where_some f found)
  where_some_sound f None one l sound = sound
  where_some_sound f (Some x) one l sound = one x l sound

  pub provided_sound : (b : Bool) (f : Local → Reaction) → KeepsSound here f → KeepsSound here (provided b f)
  provided_sound b f one l sound = one l sound

  -- ---- messages

  pub send_in_sound : (epoch to : ℕ) (body : Body) → KeepsSound here (send_in epoch here to body)
  unfolding send_in
  send_in_sound epoch to body l sound = sound_as here l _ refl refl refl sound

  pub send_all_sound : (epoch : ℕ) (to : List ℕ) (body : Body) → KeepsSound here (send_all epoch here to body)
  send_all_sound epoch to body l sound = each_sound (λ i. send_in epoch here i body) to (λ i. send_in_sound epoch i body) l sound

  -- ---- items, and what is retired

  pub accepted_sound : (moment : ℕ) (items : List Item) (l : Local) → IsSound here l → IsSound here (accepted moment items l)
  unfolding accepted
  accepted_sound moment items l sound = sound_as here l _ refl refl refl sound

  pub retired_sound : (moment : ℕ) (l : Local) → IsSound here l → IsSound here (retired moment l)
  unfolding retired
  retired_sound moment l sound = sound_as here l _ refl refl refl sound

  -- ---- notices

  pub by_replica_sound : (f : NodeContext → ReplicaLocal → ReplicaReaction) → KeepsSound here (by_replica f here)
  by_replica_sound f l sound = sound_as here l _ refl refl refl sound

  pub recorded_sound : (key : EntryKey) (firing resolved : List (List Label)) (span : ℕ) → KeepsSound here (recorded here key firing resolved span)
  unfolding recorded
  recorded_sound key firing resolved span l =
      let entry : Item = entry_of here key firing resolved span l in
      in_turn_sound (by_replica (λ h. replica.recorded h key firing resolved span) here) (send_all here.epoch here (others here) (Put 0 (entry ∷ [])))
      (by_replica_sound (λ h. replica.recorded h key firing resolved span)) (send_all_sound here.epoch (others here) (Put 0 (entry ∷ []))) l

  told_sound : (telling : Telling) → KeepsSound here (told here telling)
  told_sound (Notify notice) = by_replica_sound (λ h. replica.notified h notice)
  told_sound (Keep key span) = recorded_sound key [] [] span

  concluded_sound : (o : Outcome) → KeepsSound here (concluded here o)
  concluded_sound NotOpen = stays_sound
  concluded_sound (Delivered notice) = recorded_sound notice.key notice.firing notice.resolved notice.span
  concluded_sound (Again due) = stays_sound
  concluded_sound GivenUp = stays_sound

  pub outcome_sound : (number tries : ℕ) (status : Option ℕ) → KeepsSound here (outcome here number tries status)
  unfolding outcome
  outcome_sound number tries status l sound =
      let left : Local = record l { desk = after_outcome number tries here.moment status l.desk } in
      concluded_sound (outcome_of number tries here.moment status l.desk.open_ones) left (sound_as here l left refl refl refl sound)

  pub flushed_sound : (muted : List (List Label)) (group : Group) → KeepsSound here (flushed here muted group)
  unfolding flushed
  flushed_sound muted group l sound =
      each_sound (told here)
      (tellings (configuration_in l.held) group (sent_among l.held) (members_but muted group (replica_local here l)) here.moment) told_sound
      (begun here group l) (sound_as here l (begun here group l) refl refl refl sound)

  pub retried_sound : (number : ℕ) → KeepsSound here (retried here number)
  retried_sound number = by_replica_sound (λ h. replica.retried h number)

  -- ---- operations

  pub begin_sound : (o : Operation) (l : Local) → o.number ≡ l.ledger.operations + 1 → IsSound here l → IsSound here (begin o l).local
  begin_sound o l next sound = record {
    numbered = subst (IsStrictlySortedBy nat_cmp) (sym (one_more_number o l.operations))
        (rising_more l.ledger.operations o.number (numbers_of l.operations) (past o.number l.ledger.operations next) sound.used sound.numbered);
    used = subst (All (λ n. n ≤ o.number)) (sym (one_more_number o l.operations))
        (All-push (λ n. n ≤ o.number) (numbers_of l.operations) o.number
        (All-weaker (λ n. n ≤ l.ledger.operations) (λ n. n ≤ o.number) (λ n within. later n o.number l.ledger.operations next within) (numbers_of l.operations) sound.used)
        (itself o.number));
    pushes = sound.pushes;
    apart = sound.apart;
    quiet = sound.quiet;
  }
    where
      past : (n used : ℕ) → n ≡ used + 1 → used < n
      past n used is = omega arith

      later : (m n used : ℕ) → n ≡ used + 1 → m ≤ used → m ≤ n
      later m n used is within = omega arith

      itself : (n : ℕ) → n ≤ n
      itself n = omega arith

  pub start_sound : (connection : ℕ) (request : Request) → KeepsSound here (start here connection request)
  unfolding start
  start_sound connection request l sound =
      let operation : Operation = operation_for here connection request (l.ledger.operations + 1) in
      send_all_sound here.epoch here.three (Get operation.number) (begin operation l).local (begin_sound operation l refl sound)

  pub finish_sound : (bytes : List ℕ) (o : Operation) → KeepsSound here (finish bytes o)
  unfolding finish
  finish_sound bytes o l sound =
      let is = without_numbers o.number l.operations in
      others_sound here l (without_operation o.number l.operations)
      (subst (IsStrictlySortedBy nat_cmp) (sym is) (IsStrictlySortedBy-filter nat_cmp (λ m. not (m == o.number)) (numbers_of l.operations) sound.numbered))
      (subst (All (λ n. n ≤ l.ledger.operations)) (sym is) (All-filter (λ m. not (m == o.number)) (λ n. n ≤ l.ledger.operations) (numbers_of l.operations) sound.used))
      sound

  pub given_up_sound : (number : ℕ) → KeepsSound here (λ l. where_some timed_out (operation_at number l.operations) l)
  given_up_sound number l sound = where_some_sound timed_out (operation_at number l.operations) (λ o. finish_sound (unavailable (codes "Q1")) o) l sound

  pub replicas_changed_sound : KeepsSound here replicas_changed
  unfolding replicas_changed
  replicas_changed_sound l sound = each_sound (finish (unavailable (codes "Q2"))) l.operations (finish_sound (unavailable (codes "Q2"))) l sound

  pub at_stage_sound : (stage : Stage) (o : Operation) (l : Local) → IsSound here l → IsSound here (at_stage stage o l)
  at_stage_sound stage o l sound =
      let now : Operation = record o { stage = stage } in
      let is = with_numbers now l.operations in
      others_sound here l (with_operation now l.operations)
      (subst (IsStrictlySortedBy nat_cmp) (sym is) sound.numbered) (subst (All (λ n. n ≤ l.ledger.operations)) (sym is) sound.used) sound

  pub stamp_sound : (d : Decision) → KeepsSound here (stamp d)
  stamp_sound d l sound = sound_as here l _ refl refl refl sound

  pub wait_sound : (bytes : List ℕ) (o : Operation) → KeepsSound here (wait_with bytes o)
  wait_sound bytes o l sound = at_stage_sound (Decided bytes None) o l sound

  pub carry_out_sound : (o : Operation) (d : Decision) → KeepsSound here (carry_out here o d)
  unfolding carry_out
  carry_out_sound o d l =
      let bytes : List ℕ = reply d.status d.body in
      let puts : Local → Reaction = send_all o.epoch here here.three (Put o.number d.items) in
      in_turn_sound (stamp d) (if length d.items == 0 then finish bytes o else (wait_with bytes o >> puts)) (stamp_sound d)
      (either_sound (length d.items == 0) (finish bytes o) (wait_with bytes o >> puts) (finish_sound bytes o)
      (in_turn_sound (wait_with bytes o) puts (wait_sound bytes o) (send_all_sound o.epoch here.three (Put o.number d.items)))) l

  first_answer_sound : (o : Operation) (stage : Stage) (answer : Answered) (l : Local) → IsSound here l → IsSound here (first_answer o stage answer l)
  first_answer_sound o (Undecided None) answer l sound = at_stage_sound (Undecided (Some answer)) o l sound
  first_answer_sound o (Undecided (Some first)) answer l sound = sound
  first_answer_sound o (Decided bytes first) answer l sound = sound

  answer_by_sound : (decide : Decide) (o : Operation) (answer : Answered) (list : Option (List Item)) → KeepsSound here (answer_by decide here o answer list)
  answer_by_sound decide o answer None l sound = first_answer_sound o o.stage answer l sound
  answer_by_sound decide o answer (Some list) l sound = carry_out_sound o (decide here o.request list l) l sound

  -- .. whatever is decided
  pub answered_sound : (decide : Decide) (number epoch : ℕ) (answer : Answered) → KeepsSound here (answered decide here number epoch answer)
  unfolding answered
  answered_sound decide number epoch answer l sound =
      where_some_sound (λ (o : Operation). answer_by decide here o answer (list_for o.stage answer)) (operation_of number epoch l.operations)
      (λ o. answer_by_sound decide o answer (list_for o.stage answer)) l sound

  first_ack_sound : (o : Operation) (stage : Stage) (from : ℕ) (l : Local) → IsSound here l → IsSound here (first_ack o stage from l)
  first_ack_sound o (Undecided first) from l sound = sound
  first_ack_sound o (Decided bytes None) from l sound = at_stage_sound (Decided bytes (Some from)) o l sound
  first_ack_sound o (Decided bytes (Some first)) from l sound = sound

  ack_by_sound : (o : Operation) (from : ℕ) (bytes : Option (List ℕ)) → KeepsSound here (ack_by o from bytes)
  ack_by_sound o from None l sound = first_ack_sound o o.stage from l sound
  ack_by_sound o from (Some bytes) l sound = finish_sound bytes o l sound

  pub acked_sound : (number epoch from : ℕ) → KeepsSound here (acked number epoch from)
  unfolding acked
  acked_sound number epoch from l sound =
      where_some_sound (λ (o : Operation). ack_by o from (reply_for o.stage from)) (operation_of number epoch l.operations)
      (λ o. ack_by_sound o from (reply_for o.stage from)) l sound
