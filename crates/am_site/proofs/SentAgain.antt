-- What is sent again to an instance.
use Rattle.std.proofs.Common.{◌≡◌, ℕ, Bool, true, false, ◌&&◌, not, List, [], Option, Some, None, is_some, ap, refl, sym, ◌∙◌, if◌then◌else◌}
use Rattle.am_cluster.specs.Here.{Here, others}
use Rattle.am_cluster.specs.Local.{Local}
use Rattle.am_cluster.specs.Messages.{Ask}
use Rattle.am_cluster.specs.Reactions.{Reaction, each, stays, ◌>>◌}
use Rattle.am_cluster.specs.Sending.{send_in}
use Rattle.am_cluster.specs.Ticking.{send_again}
use Rattle.am_cluster.specs.Transfers.{ask, asked, push, send_piece}
use Rattle.am_context.proofs.Changes.{one_changes, other, own}
use Rattle.am_item.specs.declared.fault.Fault.{Fault}
use Rattle.am_item.specs.declared.item.Item.{Item}
use Rattle.am_ring.specs.Instances.{is_among}
use Rattle.am_ring.proofs.Lists.{among-filter}
use Rattle.am_transfer.specs.Peers.{at_number, peer}
use Rattle.am_transfer.specs.Pieces.{Piece, pieces_to_send}
use Rattle.am_transfer.specs.Progress.{Progress, again_by, again_to, is_asking, on, sent_again, sent_by}
use Rattle.am_transfer.specs.Settling.{Push, Settling, asking, is_merged, lacking, list_for, pushed}
use Rattle.am_transfer.specs.Tenants.{Becomes, progress_of}
use Rattle.am_transfer.specs.Timers.{AreTimed, Room}
use Rattle.am_transfer.specs.declared.again.Again.TheVariants as again
use Rattle.am_site.specs.InOrder.{IsInOrder, IsSound}
use Rattle.am_site.specs.Locals.{local_of}
use Rattle.am_site.specs.Reacting.{Reacts, StopsReacting, asked_in}
use Rattle.am_site.specs.declared.said.Said.{Said as Spoken}
use Rattle.am_site.specs.declared.site.Site.{Site}
use Rattle.am_site.proofs.InOrder.{stays_in_order}
use Rattle.am_site.proofs.Reacting.{does_from, quiet}
use Rattle.am_site.proofs.Settled.{push_as, settled_sends, settled_stops, settles, settling_does, with_room}

-- what one tenant's progress becomes is told by what it comes to
becomes_as : (tenant : List ℕ) (change like : Progress → Progress) (old new : List (List ℕ × Progress)) → change (progress_of tenant old) ≡ like (progress_of tenant old)
    → Becomes tenant change old new → Becomes tenant like old new
becomes_as tenant change like old new is becomes =
    one_changes tenant like (λ t. progress_of t old) (λ t. progress_of t new) (own tenant _ _ _ (becomes tenant) ∙ is) (λ t apart. other t tenant _ _ _ apart (becomes t))

-- an Ask is sent again to those whose State is lacking
module _ (here : Here) (to : ℕ) (l : Local) (p : Progress) (is : p.settling ≡ l.settling) (asks : is_some p.settling.asked_at ≡ true → p.asked ≡ others here) where
  swapped : (a b : Bool) → (a && b) ≡ (b && a)
  swapped true true = refl
  swapped true false = refl
  swapped false true = refl
  swapped false false = refl

  pub asks_as : is_among to (asked here l) ≡ is_asking to p
  asks_as = ap (λ s. is_among to (if is_some s.asked_at then lacking (others here) s else [])) (sym is) ∙ by (is_some p.settling.asked_at) refl
    where
      by : (b : Bool) → is_some p.settling.asked_at ≡ b
          → is_among to (if b then lacking (others here) p.settling else []) ≡ (b && (is_among to p.asked && not (is_merged p.settling to)))
      by true some =
          among-filter (λ i. not (is_merged p.settling i)) to (others here)
          ∙ swapped (not (is_merged p.settling to)) (is_among to (others here))
          ∙ ap (λ xs. is_among to xs && not (is_merged p.settling to)) (sym (asks some))
      by false none = refl

module _ (tenant : List ℕ) (here : Here) (to : ℕ) (held : List Item) (old : Site) (room : Room)
    (asks : is_some (local_of tenant old).settling.asked_at ≡ true → asked_in tenant old ≡ others here) (holds : held ≡ (local_of tenant old).held)
    (becomes : Becomes tenant (sent_again to here.moment held) old.settling.progress room.progress) (timed : AreTimed old.settling → AreTimed room) where
  abbrev p : Progress
  p = progress_of tenant old.settling.progress

  abbrev l : Local
  l = local_of tenant old

  abbrev again_sent : Local → Reaction
  again_sent l = send_again here to (at_number to l.settling.pushes) l

  -- how it settles then, and what is sent
  record Sends (f : Settling → Settling) (sends : Local → Reaction) : Type 0 where
    turns : Becomes tenant (on f) old.settling.progress room.progress
    whole : (settles f >> sends) l ≡ again_sent l

  -- .. by whether a State is pushed to it
  abbrev settled_by : Option Push → Bool → Settling → Settling
  settled_by found b s = sent_by found b to here.moment held s

  found_becomes : (found : Option Push) (b : Bool) → at_number to p.settling.pushes ≡ found → is_asking to p ≡ b → Becomes tenant (on (settled_by found b)) old.settling.progress room.progress
  found_becomes found b there asked =
      becomes_as tenant (sent_again to here.moment held) (on (settled_by found b)) old.settling.progress room.progress
      (ap (λ o. on (sent_by o (is_asking to p) to here.moment held) p) there ∙ ap (λ a. on (sent_by found a to here.moment held) p) asked) becomes

  -- a State
  module _ (incarnation : ℕ) (pieces : List Piece) where
    abbrev sends_pieces : Local → Reaction
    sends_pieces = each (send_piece here (peer to incarnation)) pieces

    abbrev settles_pushed : Settling → Settling
    settles_pushed = pushed (peer to incarnation) here.moment held

    state_sends : again.State incarnation pieces ≡ again_to to held p → Sends settles_pushed sends_pieces
    unfolding local_of
    state_sends is = by (at_number to p.settling.pushes) refl is
      where
        by_asked : (b : Bool) → again.State incarnation pieces ≡ (if b then again.Ask else again.Nothing) → Sends settles_pushed sends_pieces
        by_asked true never = absurd cc
        by_asked false never = absurd cc

        by : (found : Option Push) → at_number to p.settling.pushes ≡ found → again.State incarnation pieces ≡ again_by found (is_asking to p) to held p.settling
            → Sends settles_pushed sends_pieces
        by None none is = by_asked (is_asking to p) is
        by (Some push) some is =
            let same : incarnation ≡ push.incarnation = cc in
            let those : pieces ≡ pieces_to_send false (list_for (peer to push.incarnation) held p.settling) = cc in
            record {
              turns = rw same (found_becomes (Some push) (is_asking to p) some refl);
              whole = rw (some, same, those) (push_as here (peer to push.incarnation) held l holds);
            }

    pub state_done : again.State incarnation pieces ≡ again_to to held p → (new : Site) (x y : List Spoken)
        → Reacts tenant sends_pieces (with_room old room) new x y → Reacts tenant again_sent old new x y
    state_done is new x y sent =
        let sends = state_sends is in
        settled_sends tenant settles_pushed (on settles_pushed) old room (λ p. refl) sends.turns timed (λ p. refl) sends_pieces again_sent sends.whole x new y sent

    pub state_stops : again.State incarnation pieces ≡ again_to to held p → (x : List Spoken) (fault : Fault)
        → StopsReacting tenant sends_pieces (with_room old room) fault → StopsReacting tenant again_sent old fault
    state_stops is x fault stops =
        let sends = state_sends is in
        settled_stops tenant settles_pushed (on settles_pushed) old room (λ p. refl) sends.turns timed (λ p. refl) sends_pieces again_sent sends.whole x fault stops

  -- an Ask
  abbrev sends_ask : Local → Reaction
  sends_ask = send_in here.epoch here to (Ask here.incarnation)

  ask_sends : again.Ask ≡ again_to to held p → Sends (asking here.moment) sends_ask
  unfolding local_of ask
  ask_sends is = by (at_number to p.settling.pushes) refl is
    where
      by_asked : at_number to p.settling.pushes ≡ None → (b : Bool) → is_asking to p ≡ b → again.Ask ≡ (if b then again.Ask else again.Nothing) → Sends (asking here.moment) sends_ask
      by_asked none true asked is = record {
        turns = found_becomes None true none asked;
        whole = rw (none, asks_as here to l p refl asks ∙ asked) refl;
      }
      by_asked none false asked never = absurd cc

      by : (found : Option Push) → at_number to p.settling.pushes ≡ found → again.Ask ≡ again_by found (is_asking to p) to held p.settling → Sends (asking here.moment) sends_ask
      by None none is = by_asked none (is_asking to p) refl is
      by (Some push) some never = absurd cc

  pub ask_done : again.Ask ≡ again_to to held p → (new : Site) (x y : List Spoken)
      → Reacts tenant sends_ask (with_room old room) new x y → Reacts tenant again_sent old new x y
  ask_done is new x y sent =
      let sends = ask_sends is in
      settled_sends tenant (asking here.moment) (on (asking here.moment)) old room (λ p. refl) sends.turns timed (λ p. refl) sends_ask again_sent sends.whole x new y sent

  pub ask_stops : again.Ask ≡ again_to to held p → (x : List Spoken) (fault : Fault)
      → StopsReacting tenant sends_ask (with_room old room) fault → StopsReacting tenant again_sent old fault
  ask_stops is x fault stops =
      let sends = ask_sends is in
      settled_stops tenant (asking here.moment) (on (asking here.moment)) old room (λ p. refl) sends.turns timed (λ p. refl) sends_ask again_sent sends.whole x fault stops

  -- nothing
  abbrev settles_so : Settling → Settling
  settles_so s = s

  nothing_sends : again.Nothing ≡ again_to to held p → Sends settles_so stays
  unfolding local_of
  nothing_sends is = by (at_number to p.settling.pushes) refl is
    where
      by_asked : at_number to p.settling.pushes ≡ None → (b : Bool) → is_asking to p ≡ b → again.Nothing ≡ (if b then again.Ask else again.Nothing) → Sends settles_so stays
      by_asked none true asked never = absurd cc
      by_asked none false asked is = record {
        turns = found_becomes None false none asked;
        whole = rw (none, asks_as here to l p refl asks ∙ asked) refl;
      }

      by : (found : Option Push) → at_number to p.settling.pushes ≡ found → again.Nothing ≡ again_by found (is_asking to p) to held p.settling → Sends settles_so stays
      by None none is = by_asked none (is_asking to p) refl is
      by (Some push) some never = absurd cc

  pub nothing_done : again.Nothing ≡ again_to to held p → (x : List Spoken) → Reacts tenant again_sent old (with_room old room) x x
  nothing_done is x =
      let sends = nothing_sends is in
      quiet tenant again_sent old (with_room old room) x
      (does_from tenant (settles settles_so) again_sent old sends.whole (with_room old room) (settling_does tenant settles_so (on settles_so) old room (λ p. refl) sends.turns timed (λ p. refl)))

-- what is in order stays so
module _ (here : Here) (to : ℕ) (held : List Item) (old new : Site) (node : new.node ≡ old.node) where
  abbrev before : Progress
  before = progress_of here.tenant old.settling.progress

  abbrev after : Progress
  after = progress_of here.tenant new.settling.progress

  pub again_in_order : after ≡ sent_again to here.moment held before → IsSound here (local_of here.tenant new) → IsInOrder here old → IsInOrder here new
  unfolding local_of
  again_in_order is sound order = by (at_number to before.settling.pushes) (is_asking to before) refl is
    where
      first : (a b : Bool) → (a && b) ≡ true → a ≡ true
      first true b both = refl
      first false b both = both

      stays_so : (s : Settling) → s.has_settled ≡ before.settling.has_settled → (is_some s.asked_at ≡ true → is_some before.settling.asked_at ≡ true)
          → after ≡ record before { settling = s } → IsInOrder here new
      stays_so s settled asks is =
          stays_in_order here old new node (ap (λ (q : Progress). q.settling.has_settled) is ∙ settled)
          (λ some. ap (λ (q : Progress). q.asked) is ∙ order.asked (asks (sym (ap (λ (q : Progress). is_some q.settling.asked_at) is) ∙ some))) sound order

      by : (found : Option Push) (b : Bool) → is_asking to before ≡ b → after ≡ on (sent_by found b to here.moment held) before → IsInOrder here new
      by (Some push) b asked is = stays_so (pushed (peer to push.incarnation) here.moment held before.settling) refl (λ some. some) is
      by None true asked is = stays_so (asking here.moment before.settling) refl (λ some. first (is_some before.settling.asked_at) _ asked) is
      by None false asked is = stays_so before.settling refl (λ some. some) is
