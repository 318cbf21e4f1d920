-- What was accepted is in order once the tenant's groups wait by the position of the instance.
use Rattle.std.proofs.Common.{◌≡◌, ℕ, zero, suc, ◌<◌, ◌||◌, Bool, true, false, not, ◌==◌, List, [], ◌∷◌, length, map, None, is_some, arith, inl, inr, ap, refl, sym, subst, ◌∙◌, if◌then◌else◌}
use Rattle.std.specs.List.{list_all, list_any}
use Rattle.std.proofs.lemmas.Bool.{false≢true}
use Rattle.am_cluster.specs.Accepting.{accepted}
use Rattle.am_cluster.specs.Arriving.{take_put}
use Rattle.am_cluster.specs.Here.{Here, others, position_here}
use Rattle.am_cluster.specs.Local.{Local, is_settled}
use Rattle.am_cluster.specs.Messages.{Ack}
use Rattle.am_cluster.specs.Reactions.{Reaction, only_if}
use Rattle.am_cluster.specs.Sending.{send_in}
use Rattle.am_cluster.specs.Transfers.{take_state}
use Rattle.am_current.specs.Current.{configuration_in}
use Rattle.am_item.specs.Best.{all_joined}
use Rattle.am_item.specs.declared.fault.Fault.{Fault}
use Rattle.am_item.specs.declared.fault.Fault.TheVariants.{OutOfMemory, CountsExhausted, PatternNotBuilt, StoreRefused}
use Rattle.am_item.specs.declared.item.Item.{Item}
use Rattle.am_labels.specs.declared.Label.{Label}
use Rattle.am_match.specs.Matchers.{patterns_of}
use Rattle.am_members.specs.declared.known.Known.{Known}
use Rattle.am_muting.specs.Failing.{HasUnanswered}
use Rattle.am_muting.specs.Muting.{alert_sets}
use Rattle.am_node.specs.Accepting.{StopsCommitting}
use Rattle.am_node.specs.Held.{local_of as local_in_node}
use Rattle.am_node.specs.Storing.{AreStored}
use Rattle.am_notifier.specs.Following.{all_came, is_known}
use Rattle.am_route.specs.Asked.{route_matchers}
use Rattle.am_rows.specs.Rows.{stored_in}
use Rattle.am_quorum.specs.Dockets.{Ops}
use Rattle.am_tenant.specs.Names.{same}
use Rattle.am_transfer.specs.Peers.{Peer}
use Rattle.am_transfer.specs.Settling.{Settling, is_merged, now_settled, with_span}
use Rattle.am_transfer.specs.Tenants.{progress_of}
use Rattle.am_transfer.specs.Timers.{AreTimed, Room}
use Rattle.am_site.specs.Here.{here_of}
use Rattle.am_site.specs.InOrder.{IsAtPosition, IsInOrder, IsSound, StopsMoving}
use Rattle.am_site.specs.Locals.{local_of}
use Rattle.am_site.specs.Putting.{StopsPutting, StopsSettling, StopsTaking}
use Rattle.am_site.specs.Reacting.{Keeps, KeepsOthers, Moves, Reacts, position_in}
use Rattle.am_site.specs.declared.here.Here.{Here as Given}
use Rattle.am_site.specs.declared.said.Said.{Said as Spoken}
use Rattle.am_site.specs.declared.site.Site.{Site}
use Rattle.am_site.proofs.Moving.{others_both, others_kept}

-- ---- what a Put brings

module _ (here : Here) (sender : Peer) (operation : ℕ) (items : List Item) (l : Local) where
  abbrev put_if : Bool → Reaction
  put_if wants_none = only_if (not wants_none) (send_in here.epoch here sender.instance (Ack operation sender.incarnation)) (accepted here.moment items l)

  put_sinces_if : (b : Bool) → (put_if b).local.sinces ≡ all_came here.moment (alert_sets items) l.sinces
  unfolding accepted send_in
  put_sinces_if true = refl
  put_sinces_if false = refl

  put_held_if : (b : Bool) → (put_if b).local.held ≡ all_joined l.held items
  unfolding accepted send_in
  put_held_if true = refl
  put_held_if false = refl

  put_settling_if : (b : Bool) → (put_if b).local.settling ≡ l.settling
  unfolding accepted send_in
  put_settling_if true = refl
  put_settling_if false = refl

  pub put_sinces : (take_put here sender operation items l).local.sinces ≡ all_came here.moment (alert_sets items) l.sinces
  put_sinces = put_sinces_if (operation == 0)

  pub put_held : (take_put here sender operation items l).local.held ≡ all_joined l.held items
  put_held = put_held_if (operation == 0)

  pub put_settling : (take_put here sender operation items l).local.settling ≡ l.settling
  put_settling = put_settling_if (operation == 0)

-- ---- what a piece of a State brings

-- who is settled stays so
settled_more : (b : Bool) (s : Settling) (stayed : Bool) → (stayed || s.has_settled) ≡ true → (stayed || (if b then now_settled s else s).has_settled) ≡ true
settled_more true s true is = refl
settled_more true s false is = refl
settled_more false s stayed is = is

-- who asks asked before
asked_before : (b : Bool) (s : Settling) → is_some (if b then now_settled s else s).asked_at ≡ true → is_some s.asked_at ≡ true
asked_before true s asks = absurd (false≢true asks)
asked_before false s asks = asks

module _ (here : Here) (sender : Peer) (place : ℕ) (is_last : Bool) (items : List Item) (l : Local) where
  pub state_sinces : (take_state here sender place is_last items l).local.sinces ≡ all_came here.moment (alert_sets items) l.sinces
  unfolding take_state accepted send_in
  state_sinces = refl

  pub state_held : (take_state here sender place is_last items l).local.held ≡ all_joined l.held items
  unfolding take_state accepted send_in
  state_held = refl

  abbrev with_piece : Settling
  with_piece = with_span sender place (record { count = length items; is_last = is_last }) l.settling

  pub state_settled : is_settled here l ≡ true → is_settled here (take_state here sender place is_last items l).local ≡ true
  unfolding take_state accepted send_in
  state_settled is = settled_more (list_all (is_merged with_piece) (others here)) with_piece here.stayed is

  pub state_asked : is_some (take_state here sender place is_last items l).local.settling.asked_at ≡ true → is_some l.settling.asked_at ≡ true
  unfolding take_state accepted send_in
  state_asked asks = asked_before (list_all (is_merged with_piece) (others here)) with_piece asks

-- ---- why the groups can't be moved

none_below : (n : ℕ) → n ≡ 0 → 0 < n → ⊥
none_below n is some = grind (arith)

-- no alert is known where none is there
brings_one : (sets : List (List Label)) (alerts : List (List Label × Known)) → length alerts ≡ 0 → (sets ≡ [] → ⊥)
    → list_any (λ labels. not (is_known labels alerts)) sets ≡ true
brings_one [] alerts none some = absurd (some refl)
brings_one (labels ∷ sets) [] none some = refl
brings_one (labels ∷ sets) (a ∷ alerts) none some = absurd cc

-- as many moments are kept as alerts are planned
as_many : (alerts : List (List Label × Known))
    → length (map (λ (a : List Label × Known). let known : List Label × ℕ = (a.0, a.1.since) in known) alerts) ≡ length alerts
as_many [] = refl
as_many (a ∷ alerts) = ap suc (as_many alerts)

-- the position is as it was where the instance is settled as it was
pub still_there : (here : Here) (old mid : Site) → Keeps old mid → is_settled here (local_of here.tenant mid) ≡ is_settled here (local_of here.tenant old)
    → IsAtPosition here old → IsAtPosition here mid
still_there here old mid kept settled at =
    kept.positions here.tenant ∙ at ∙ ap (λ b. if b then position_here here else None) (sym settled)

module _ (refused : List (List ℕ)) (given : Given) (items : List Item) (old mid : Site) (order : IsInOrder (here_of given) old)
    (still : IsAtPosition (here_of given) old → IsAtPosition (here_of given) mid)
    (sinces : (local_of given.tenant.now mid).sinces ≡ all_came given.moment (alert_sets items) (local_of given.tenant.now old).sinces)
    (held : (local_of given.tenant.now mid).held ≡ all_joined (local_of given.tenant.now old).held items) where
  abbrev t : List ℕ
  t = given.tenant.now

  abbrev here : Here
  here = here_of given

  positive : (n : ℕ) → 0 < suc n
  positive n = grind (arith)

  -- no alert was held where the groups are to be moved
  none_before : (IsAtPosition here mid → ⊥) → length (local_of t old).sinces ≡ 0
  none_before apart = by (length (local_of t old).sinces) refl
    where
      by : (n : ℕ) → length (local_of t old).sinces ≡ n → length (local_of t old).sinces ≡ 0
      by zero is = is
      by (suc n) is = absurd (apart (still (order.position (rw is (positive n)))))

  -- .. so that the items bring one
  pub stops_putting : StopsMoving refused given mid PatternNotBuilt → StopsCommitting refused items (local_in_node t old.node) PatternNotBuilt
  unfolding local_of
  stops_putting (apart, (some, unanswered)) = (
    inl (brings_one (alert_sets items) (local_in_node t old.node).plan.grouped.alerts
        (sym (as_many (local_in_node t old.node).plan.grouped.alerts) ∙ none_before apart)
        (λ empty. none_below (length (local_in_node t mid.node).plan.grouped.alerts)
        (sym (as_many (local_in_node t mid.node).plan.grouped.alerts) ∙ ap length sinces ∙ ap (λ sets. length (all_came given.moment sets (local_of t old).sinces)) empty ∙ none_before apart)
        some)),
    subst (λ (xs : List Item). HasUnanswered refused (patterns_of (route_matchers (configuration_in xs).routes))) held unanswered,
  )

-- what is moved is in order
pub is_in_order : (here : Here) (old mid new : Site) → IsInOrder here old → Keeps old mid
    → (is_some (local_of here.tenant mid).settling.asked_at ≡ true → is_some (local_of here.tenant old).settling.asked_at ≡ true)
    → IsSound here (local_of here.tenant mid)
    → local_of here.tenant new ≡ local_of here.tenant mid → new.settling ≡ mid.settling → IsAtPosition here new → IsInOrder here new
is_in_order here old mid new order kept asks sound same room at = record {
  position = λ some. at;
  asked = λ some.
      ap (λ (r : Room). (progress_of here.tenant r.progress).asked) room ∙ kept.asked here.tenant
      ∙ order.asked (asks (sym (ap (λ (l : Local). is_some l.settling.asked_at) same) ∙ some));
  sound = subst (IsSound here) (sym same) sound;
}

-- .. and moves nothing of others
pub then_moves : (t : List ℕ) (f : Local → Reaction) (old mid new : Site) (x y : List Spoken) → Reacts t f old mid x y
    → ((s : List ℕ) → local_of s new ≡ local_of s mid) → KeepsOthers t mid new → Moves t f old new x y
then_moves t f old mid new x y one same kept = record {
  local = λ s. same s ∙ one.local s;
  said = one.said;
  fits = one.fits;
  keeps = others_both t old mid new (others_kept t old mid one.keeps) kept;
}

-- .. and nothing that is stored
pub still_stored : (mid new : Site) (pairs : List (List ℕ × Item)) → ((s : List ℕ) → local_of s new ≡ local_of s mid) → AreStored mid.node pairs → AreStored new.node pairs
unfolding local_of
still_stored mid new pairs same stored s = stored s ∙ ap (λ (l : Local). stored_in l.held) (sym (same s))

-- moving the groups of one tenant leaves those of the others
pub position_keeps : (t : List ℕ) (mid new : Site) → ((s : List ℕ) → same s t ≡ false → position_in s new ≡ position_in s mid)
    → new.operations ≡ mid.operations → new.settling ≡ mid.settling → KeepsOthers t mid new
position_keeps t mid new positions operations room = record {
  incarnation = ap (λ (o : Ops). o.incarnation) operations;
  positions = positions;
  asked = λ s apart. ap (λ (r : Room). (progress_of s r.progress).asked) room;
  timed = λ timed. subst AreTimed (sym room) timed;
}

-- why it stops at a Put, where it stops as it moves the groups
pub stops_put_moving : (refused : List (List ℕ)) (given : Given) (sender : Peer) (operation : ℕ) (items : List Item) (old mid : Site) (fault : Fault)
    → (StopsMoving refused given mid PatternNotBuilt → StopsCommitting refused items (local_in_node given.tenant.now old.node) PatternNotBuilt)
    → StopsMoving refused given mid fault → StopsPutting refused given sender operation items old fault
stops_put_moving refused given sender operation items old mid OutOfMemory brings stops = tt
stops_put_moving refused given sender operation items old mid CountsExhausted brings stops = absurd stops
stops_put_moving refused given sender operation items old mid PatternNotBuilt brings stops = brings stops
stops_put_moving refused given sender operation items old mid StoreRefused brings stops = absurd stops

module _ (refused : List (List ℕ)) (given : Given) (sender : Peer) (place : ℕ) (is_last : Bool) (items : List Item) (old : Site) where
  -- .. and at a piece of a State
  pub stops_state_moving : (mid : Site) (fault : Fault)
      → (StopsMoving refused given mid PatternNotBuilt → StopsSettling refused given sender place is_last items old PatternNotBuilt)
      → StopsMoving refused given mid fault → StopsSettling refused given sender place is_last items old fault
  stops_state_moving mid OutOfMemory brings stops = tt
  stops_state_moving mid CountsExhausted brings stops = absurd stops
  stops_state_moving mid PatternNotBuilt brings stops = brings stops
  stops_state_moving mid StoreRefused brings stops = absurd stops

  -- what stops it as it takes the piece
  pub stops_before_moving : (fault : Fault) → StopsTaking refused given sender place is_last items old fault → StopsSettling refused given sender place is_last items old fault
  stops_before_moving OutOfMemory stops = tt
  stops_before_moving CountsExhausted stops = stops
  stops_before_moving PatternNotBuilt stops = inl stops
  stops_before_moving StoreRefused stops = stops

  -- where the piece settles the instance, the groups of the alerts that are held then are moved; where it doesn't, they
  -- are moved for what it brings
  pub settles_unanswered : (mid : Site) (before after : Bool) → is_settled (here_of given) (local_of given.tenant.now old) ≡ before
      → is_settled (here_of given) (take_state (here_of given) sender place is_last items (local_of given.tenant.now old)).local ≡ after
      → (after ≡ before → StopsMoving refused given mid PatternNotBuilt → StopsCommitting refused items (local_in_node given.tenant.now old.node) PatternNotBuilt)
      → (local_of given.tenant.now mid).sinces ≡ all_came given.moment (alert_sets items) (local_of given.tenant.now old).sinces
      → (local_of given.tenant.now mid).held ≡ all_joined (local_of given.tenant.now old).held items
      → StopsMoving refused given mid PatternNotBuilt → StopsSettling refused given sender place is_last items old PatternNotBuilt
  unfolding local_of accepted
  settles_unanswered mid true true was is brings sinces held stops = inl (brings refl stops)
  settles_unanswered mid false false was is brings sinces held stops = inl (brings refl stops)
  settles_unanswered mid true false was is brings sinces held stops =
      absurd (false≢true (sym is ∙ state_settled (here_of given) sender place is_last items (local_of given.tenant.now old) was))
  settles_unanswered mid false true was is brings sinces held (apart, (some, unanswered)) = inr (
    was,
    (
      is,
      (
        subst (λ n. 0 < n) (sym (as_many (local_in_node given.tenant.now mid.node).plan.grouped.alerts) ∙ ap length sinces) some,
        subst (λ (xs : List Item). HasUnanswered refused (patterns_of (route_matchers (configuration_in xs).routes))) held unanswered,
      ),
    ),
  )
