-- What is sound of what an instance has of a tenant stays so as the instance settles and pushes States, at ticks, and as messages come.
use Rattle.std.proofs.Common.{◌≡◌, ℕ, ◌==◌, ◌&&◌, ◌||◌, Bool, true, false, not, cond, List, [], ◌∷◌, length, Option, Some, None, Ordering, Less, Equal, Greater, is_none, is_some, option_map, unwrap_or, nat_cmp, ap, refl, sym, subst, ◌∙◌, if◌then◌else◌}
use Rattle.std.specs.BTreeSet.{insert_key}
use Rattle.std.specs.List.{filter, list_all}
use Rattle.std.specs.List.Sorted.{IsStrictlySortedBy}
use Rattle.std.specs.Map.{keys_of}
use Rattle.std.specs.Ordering.{match_ordering}
use Rattle.std.proofs.lemmas.Bool.{false≢true}
use Rattle.std.proofs.lemmas.Cmp.{nat_cmp_total}
use Rattle.std.proofs.lemmas.List.Kept.{IsStrictlySortedBy-filter}
use Rattle.std.proofs.lemmas.Map.Lookups.{exact_unsigned}
use Rattle.am_agenda.specs.Plan.{group_in}
use Rattle.am_cluster.specs.Accepting.{accepted}
use Rattle.am_cluster.specs.Arriving.{Arrival, Counted, Dropped, Taken, answer_get, arrival, arrive, arrive_as, does, take_put}
use Rattle.am_cluster.specs.Here.{Here, is_replica_here, others, peer_now}
use Rattle.am_cluster.specs.Local.{Local, is_settled, with_settling}
use Rattle.am_cluster.specs.Messages.{Ack, Answer, Ask, Body, Get, Got, Message, Put, State}
use Rattle.am_cluster.specs.Operating.{Decide}
use Rattle.am_cluster.specs.Reactions.{Reaction, each, only_if}
use Rattle.am_cluster.specs.Retiring.{retired}
use Rattle.am_cluster.specs.RingChanges.{end_push}
use Rattle.am_cluster.specs.Sending.{send, send_in}
use Rattle.am_cluster.specs.Ticking.{due_keys, handled, is_flush_due, muted_of, send_again, ticked}
use Rattle.am_cluster.specs.Flushing.{flushed}
use Rattle.am_cluster.specs.Transfers.{answer_ask, ask, asked, asks_first, begin_push, forced, push, send_got, send_piece, send_state, take_got, take_state}
use Rattle.am_item.specs.declared.item.Item.{Item}
use Rattle.am_labels.specs.declared.Label.{Label}
use Rattle.am_labels.proofs.Ordered.{sorted_inserted}
use Rattle.am_ring.specs.Instances.{is_among}
use Rattle.am_timer.specs.Timer.{Key}
use Rattle.am_timer.specs.declared.key.TimerKey.TheVariants.{Operation as OperationKey, Group as GroupKey, Retry as RetryKey, Push as PushKey}
use Rattle.am_transfer.specs.Peers.{ByNumber, Peer, at_number, at_peer, peer, with_number, without_number}
use Rattle.am_transfer.specs.Pieces.{Piece, SentList, named_at, pieces_to_send, reach_of}
use Rattle.am_transfer.specs.Settling.{Push, Settling, ended_by, is_merged, lacking, list_for as sent_list_for, now_settled, spans_from, with_list, with_push, with_span, without_push}
use Rattle.am_site.specs.InOrder.{IsSound}
use Rattle.am_site.proofs.Sound.{KeepsSound, accepted_sound, acked_sound, answered_sound, each_sound, flushed_sound, given_up_sound, only_if_sound, retired_sound, retried_sound, send_in_sound, sound_as}

-- ---- maps by numbers

put_keys : {X : Type 0} (n : ℕ) (v : X) (es : ByNumber X) → keys_of (with_number n v es) ≡ insert_key nat_cmp (keys_of es) n
put_keys n v [] = refl
put_keys n v (e ∷ es) =
    by (nat_cmp n e.0) ∙ ap (λ ns. match_ordering (nat_cmp n e.0) (n ∷ e.0 ∷ keys_of es) (e.0 ∷ keys_of es) (e.0 ∷ ns)) (put_keys n v es)
  where
    by : (o : Ordering) → keys_of (match_ordering o ((n, v) ∷ e ∷ es) ((e.0, v) ∷ es) (e ∷ with_number n v es))
        ≡ match_ordering o (n ∷ e.0 ∷ keys_of es) (e.0 ∷ keys_of es) (e.0 ∷ keys_of (with_number n v es))
    by Less = refl
    by Equal = refl
    by Greater = refl

rising_put : {X : Type 0} (n : ℕ) (v : X) (es : ByNumber X) → IsStrictlySortedBy nat_cmp (keys_of es) → IsStrictlySortedBy nat_cmp (keys_of (with_number n v es))
rising_put n v es up = subst (IsStrictlySortedBy nat_cmp) (sym (put_keys n v es)) (sorted_inserted nat_cmp nat_cmp_total exact_unsigned (keys_of es) n up)

left_keys : {X : Type 0} (n : ℕ) (es : ByNumber X) → keys_of (without_number n es) ≡ filter (λ m. not (n == m)) (keys_of es)
left_keys n [] = refl
left_keys n (e ∷ es) = by (not (n == e.0)) ∙ ap (λ ns. cond (not (n == e.0)) (e.0 ∷ ns) ns) (left_keys n es)
  where
    by : (b : Bool) → keys_of (cond b (e ∷ without_number n es) (without_number n es)) ≡ cond b (e.0 ∷ keys_of (without_number n es)) (keys_of (without_number n es))
    by true = refl
    by false = refl

rising_left : {X : Type 0} (n : ℕ) (es : ByNumber X) → IsStrictlySortedBy nat_cmp (keys_of es) → IsStrictlySortedBy nat_cmp (keys_of (without_number n es))
rising_left n es up = subst (IsStrictlySortedBy nat_cmp) (sym (left_keys n es)) (IsStrictlySortedBy-filter nat_cmp (λ m. not (n == m)) (keys_of es) up)

-- ---- who is settled

-- who asks isn't settled
pub asks_unsettled : (here : Here) (l : Local) → IsSound here l → is_some l.settling.asked_at ≡ true → is_settled here l ≡ false
asks_unsettled here l sound asks = by (is_settled here l) refl
  where
    by : (b : Bool) → is_settled here l ≡ b → is_settled here l ≡ false
    by true is = absurd (false≢true (ap is_some (sym (sound.quiet is)) ∙ asks))
    by false is = is

-- .. so that it pushes to nobody
pub asks_apart : (here : Here) (l : Local) → IsSound here l → is_some l.settling.asked_at ≡ true → l.settling.pushes ≡ []
asks_apart here l sound asks = sound.apart (asks_unsettled here l sound asks)

-- who pushes is settled
pub pushes_settled : (here : Here) (l : Local) (to : ℕ) (p : Push) → IsSound here l → at_number to l.settling.pushes ≡ Some p → is_settled here l ≡ true
pushes_settled here l to p sound at = by (is_settled here l) refl
  where
    by : (b : Bool) → is_settled here l ≡ b → is_settled here l ≡ true
    by true is = is
    by false is = absurd (false≢true (ap (λ (es : ByNumber Push). is_some (at_number to es)) (sym (sound.apart is)) ∙ ap is_some at))

-- what is sent again to one that it asked goes out where it isn't settled
asked_unsettled : (here : Here) (l : Local) (to : ℕ) → IsSound here l → is_among to (asked here l) ≡ true → is_settled here l ≡ false
asked_unsettled here l to sound among = asks_unsettled here l sound (by (is_some l.settling.asked_at) among)
  where
    by : (b : Bool) → is_among to (if b then lacking (others here) l.settling else []) ≡ true → b ≡ true
    by true among = refl
    by false none = absurd (false≢true none)

-- ---- how it settles

-- it settles otherwise
settling_sound : (here : Here) (l : Local) (s : Settling) → IsStrictlySortedBy nat_cmp (keys_of s.pushes) → ((here.stayed || s.has_settled) ≡ false → s.pushes ≡ [])
    → ((here.stayed || s.has_settled) ≡ true → s.asked_at ≡ None) → IsSound here l → IsSound here (with_settling s l)
settling_sound here l s pushes apart quiet sound = record { numbered = sound.numbered; used = sound.used; pushes = pushes; apart = apart; quiet = quiet }

-- it may become settled
settled_sound : (here : Here) (l : Local) (b : Bool) (s : Settling) → IsSound here (with_settling s l) → IsSound here (with_settling (if b then now_settled s else s) l)
settled_sound here l true s sound = settling_sound here (with_settling s l) (now_settled s) sound.pushes (λ unsettled. absurd (is_one here.stayed unsettled)) (λ settled. refl) sound
  where
    is_one : (stayed : Bool) → (stayed || true) ≡ false → ⊥
    is_one true is = false≢true (sym is)
    is_one false is = false≢true (sym is)
settled_sound here l false s sound = sound

-- sound where it is settled, or where it isn't, which then stays so
abbrev pub KeepsWhere : Here → (settled : Bool) → (Local → Reaction) → Type 0
KeepsWhere here settled f = (l : Local) → is_settled here l ≡ settled → IsSound here l → (is_settled here (f l).local ≡ settled) × IsSound here (f l).local

module _ (here : Here) where
  pub each_where : {A : Type 0} (settled : Bool) (f : A → Local → Reaction) (xs : List A) → ((x : A) → KeepsWhere here settled (f x)) → KeepsWhere here settled (each f xs)
  each_where settled f [] one l is sound = (is, sound)
  each_where settled f (x ∷ xs) one l is sound = let first = one x l is sound in each_where settled f xs one (f x l).local first.0 first.1

  -- ---- Asks

  -- one that isn't settled may ask
  pub ask_where : (to : ℕ) → KeepsWhere here false (ask here to)
  unfolding ask send_in
  ask_where to l is sound = (
    is,
    record { numbered = sound.numbered; used = sound.used; pushes = sound.pushes; apart = sound.apart; quiet = λ settled. absurd (false≢true (sym is ∙ settled)) },
  )

  pub asks_first_sound : KeepsSound here (asks_first here)
  unfolding asks_first
  asks_first_sound l sound = by (is_replica_here here && (not (is_settled here l) && is_none l.settling.asked_at)) refl
    where
      unsettled : (a b c : Bool) → (a && (not b && c)) ≡ true → b ≡ false
      unsettled a false c is = refl
      unsettled true true c is = sym is
      unsettled false true c is = sym is

      by : (b : Bool) → (is_replica_here here && (not (is_settled here l) && is_none l.settling.asked_at)) ≡ b
          → IsSound here (only_if b (each (ask here) (lacking (others here) l.settling)) l).local
      by true is =
          (each_where false (ask here) (lacking (others here) l.settling) ask_where l
          (unsettled (is_replica_here here) (is_settled here l) (is_none l.settling.asked_at) is) sound).1
      by false is = sound

  -- ---- States

  piece_where : (settled : Bool) (receiver : Peer) (p : Piece) → KeepsWhere here settled (send_piece here receiver p)
  unfolding send_in
  piece_where settled receiver p l is sound = (is, sound_as here l _ refl refl refl sound)

  pub send_state_where : (settled is_asked : Bool) (receiver : Peer) → KeepsWhere here settled (send_state here is_asked receiver)
  unfolding send_state
  send_state_where settled is_asked receiver l is sound =
      let list : SentList = sent_list_for receiver l.held l.settling in
      let s : Settling = with_list receiver list l.settling in
      each_where settled (send_piece here receiver) (pieces_to_send is_asked list) (piece_where settled receiver) (with_settling s l) is
      (settling_sound here l s sound.pushes sound.apart sound.quiet sound)

  pub send_state_sound : (is_asked : Bool) (receiver : Peer) → KeepsSound here (send_state here is_asked receiver)
  send_state_sound is_asked receiver l sound = (send_state_where (is_settled here l) is_asked receiver l refl sound).1

  -- a settled one may push
  pub push_where : (receiver : Peer) → KeepsWhere here true (push here receiver)
  unfolding push
  push_where receiver l is sound =
      let s : Settling = with_push receiver.instance receiver.incarnation here.moment l.settling in
      send_state_where true false receiver (with_settling s l) is
      (settling_sound here l s (rising_put receiver.instance (record { incarnation = receiver.incarnation; last = here.moment }) l.settling.pushes sound.pushes)
      (λ unsettled. absurd (false≢true (sym unsettled ∙ is))) sound.quiet sound)

  pub begin_push_where : (to : ℕ) → KeepsWhere here true (begin_push here to)
  begin_push_where to = push_where (peer_now here to)

  pub answer_ask_sound : (asker : Peer) → KeepsSound here (answer_ask here asker)
  unfolding answer_ask
  answer_ask_sound asker l sound = only_if_sound here (is_settled here l) (send_state here true asker) (send_state_sound true asker) l sound

  -- ---- what comes of them

  send_got_sound : (sender : Peer) (place : ℕ) → KeepsSound here (send_got here sender place)
  send_got_sound sender place l sound = send_in_sound here here.epoch sender.instance (Got sender.incarnation place) l sound

  pub take_state_sound : (sender : Peer) (place : ℕ) (is_last : Bool) (items : List Item) → KeepsSound here (take_state here sender place is_last items)
  unfolding take_state
  take_state_sound sender place is_last items l sound =
      let s : Settling = with_span sender place (record { count = length items; is_last = is_last }) l.settling in
      let m : Local = accepted here.moment items l in
      send_got_sound sender (reach_of (spans_from sender s)).place (with_settling (if list_all (is_merged s) (others here) then now_settled s else s) m)
      (settled_sound here m (list_all (is_merged s) (others here)) s
      (settling_sound here m s sound.pushes sound.apart sound.quiet (accepted_sound here here.moment items l sound)))

  pub take_got_sound : (receiver : Peer) (place : ℕ) → KeepsSound here (take_got here receiver place)
  unfolding take_got
  take_got_sound receiver place l sound = by (at_peer receiver l.settling.lists)
    where
      ended : (b : Bool) (list : SentList)
          → IsSound here (with_settling (if b then without_push receiver.instance (with_list receiver list l.settling) else with_list receiver list l.settling) l)
      ended true list =
          settling_sound here l (without_push receiver.instance (with_list receiver list l.settling)) (rising_left receiver.instance l.settling.pushes sound.pushes)
          (λ unsettled. ap (without_number receiver.instance) (sound.apart unsettled)) sound.quiet sound
      ended false list = settling_sound here l (with_list receiver list l.settling) sound.pushes sound.apart sound.quiet sound

      by : (found : Option SentList) → IsSound here (with_settling (unwrap_or (option_map (λ list. ended_by receiver (named_at place list) l.settling) found) l.settling) l)
      by None = sound
      by (Some list) = ended (named_at place list).is_ended (named_at place list)

  -- the push to one may end
  pub end_push_sound : (to : ℕ) → KeepsSound here (end_push to)
  end_push_sound to l sound =
      settling_sound here l (without_push to l.settling) (rising_left to l.settling.pushes sound.pushes)
      (λ unsettled. ap (without_number to) (sound.apart unsettled)) sound.quiet sound

  pub forced_sound : KeepsSound here (forced here)
  unfolding forced
  forced_sound l sound = by (is_replica_here here && not (is_settled here l))
    where
      by : (b : Bool) → IsSound here (if b then with_settling (now_settled l.settling) l else l)
      by true = settled_sound here l true l.settling sound
      by false = sound

  -- ---- ticks

  pub send_again_sound : (to : ℕ) → KeepsSound here (λ l. send_again here to (at_number to l.settling.pushes) l)
  send_again_sound to l sound = by (at_number to l.settling.pushes) refl
    where
      asks : (b : Bool) → is_among to (asked here l) ≡ b → IsSound here (only_if b (ask here to) l).local
      asks true among = (ask_where to l (asked_unsettled here l to sound among) sound).1
      asks false none = sound

      by : (found : Option Push) → at_number to l.settling.pushes ≡ found → IsSound here (send_again here to found l).local
      by (Some p) at = (push_where (peer to p.incarnation) l (pushes_settled here l to p sound at) sound).1
      by None at = asks (is_among to (asked here l)) refl

  pub handled_sound : (muted : List (List Label)) (key : Key) → KeepsSound here (handled here muted key)
  unfolding handled
  handled_sound muted (OperationKey number) l sound = given_up_sound here number l sound
  handled_sound muted (GroupKey key) l sound =
      only_if_sound here (is_flush_due here key l) (flushed here muted (group_in key)) (flushed_sound here muted (group_in key)) l sound
  handled_sound muted (RetryKey number) l sound = retried_sound here number l sound
  handled_sound muted (PushKey to) l sound = send_again_sound to l sound

  pub ticked_sound : KeepsSound here (ticked here)
  unfolding ticked
  ticked_sound l sound =
      let left : Local = retired here.moment l in
      each_sound here (handled here (muted_of here left)) (due_keys here left) (handled_sound (muted_of here left)) left (retired_sound here here.moment l sound)

  -- ---- messages

  pub answer_get_sound : (asker : Peer) (operation : ℕ) → KeepsSound here (answer_get here asker operation)
  answer_get_sound asker operation l sound =
      only_if_sound here (is_settled here l) (send here asker.instance (Answer operation asker.incarnation l.held))
      (send_in_sound here here.epoch asker.instance (Answer operation asker.incarnation l.held)) l sound

  pub take_put_sound : (sender : Peer) (operation : ℕ) (items : List Item) → KeepsSound here (take_put here sender operation items)
  take_put_sound sender operation items l sound =
      only_if_sound here (not (operation == 0)) (send here sender.instance (Ack operation sender.incarnation))
      (send_in_sound here here.epoch sender.instance (Ack operation sender.incarnation)) (accepted here.moment items l) (accepted_sound here here.moment items l sound)

  pub does_sound : (decide : Decide) (message : Message) (body : Body) → KeepsSound here (does decide here message body)
  does_sound decide message (Get operation) = answer_get_sound (peer message.from message.incarnation) operation
  does_sound decide message (Answer operation incarnation items) = answered_sound here decide operation message.epoch (record { from = message.from; items = items })
  does_sound decide message (Put operation items) = take_put_sound (peer message.from message.incarnation) operation items
  does_sound decide message (Ack operation incarnation) = acked_sound here operation message.epoch message.from
  does_sound decide message (Ask incarnation) = answer_ask_sound (peer message.from incarnation)
  does_sound decide message (State incarnation place is_last items) = take_state_sound (peer message.from message.incarnation) place is_last items
  does_sound decide message (Got incarnation place) = take_got_sound (peer message.from message.incarnation) place

  arrive_as_sound : (a : Arrival) (decide : Decide) (message : Message) → KeepsSound here (arrive_as a decide here message)
  arrive_as_sound Dropped decide message l sound = sound
  arrive_as_sound Counted decide message l sound = does_sound decide message message.body l sound
  arrive_as_sound Taken decide message l sound =
      asks_first_sound (does decide here message message.body l).local (does_sound decide message message.body l sound)

  pub arrive_sound : (decide : Decide) (message : Message) → KeepsSound here (arrive decide here message)
  unfolding arrive
  arrive_sound decide message l sound = arrive_as_sound (arrival here message l) decide message l sound
