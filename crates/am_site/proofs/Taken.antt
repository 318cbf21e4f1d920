-- A piece of a State that came, and a Got.
use Rattle.std.proofs.Common.{◌≡◌, ℕ, Bool, true, false, nat_le, List, [], length, Option, unwrap_or, ap, refl, sym, ◌∙◌}
use Rattle.am_cluster.specs.Accepting.{accepted}
use Rattle.am_cluster.specs.Here.{Here, others, present_at}
use Rattle.am_cluster.specs.Local.{Local}
use Rattle.am_cluster.specs.Reactions.{Reaction, stays, ◌>>◌}
use Rattle.am_cluster.specs.Sending.{greatest_place, send}
use Rattle.am_cluster.specs.Messages.{Got}
use Rattle.am_cluster.specs.Transfers.{send_got, take_got, take_state}
use Rattle.am_cluster.proofs.PeerMaps.{at_same}
use Rattle.am_context.proofs.Changes.{own}
use Rattle.am_item.specs.declared.fault.Fault.{Fault}
use Rattle.am_item.specs.declared.fault.Fault.TheVariants.{OutOfMemory, CountsExhausted, PatternNotBuilt, StoreRefused}
use Rattle.am_item.specs.declared.item.Item.{Item}
use Rattle.am_transfer.specs.Peers.{ByNumber, Peer}
use Rattle.am_transfer.specs.Pieces.{Span, reach_of}
use Rattle.am_transfer.specs.Peers.{with_number}
use Rattle.am_transfer.specs.Progress.{after_got, is_got, on}
use Rattle.am_transfer.specs.Settling.{Settling, place_behind, spans_from, taken, with_span}
use Rattle.am_transfer.specs.Tenants.{Becomes, settling_of}
use Rattle.am_transfer.specs.Timers.{AreTimed, Room}
use Rattle.am_site.specs.Here.{here_of}
use Rattle.am_site.specs.Locals.{local_of}
use Rattle.am_site.specs.Putting.{StopsTaking}
use Rattle.am_site.specs.Reacting.{Does, Keeps, Makes, Reacts, StopsReacting}
use Rattle.am_site.specs.declared.here.Here.{Here as Given}
use Rattle.am_site.specs.declared.said.Said.{Said as Spoken}
use Rattle.am_site.specs.declared.site.Site.{Site}
use Rattle.am_site.proofs.Reacting.{does_from, in_turn_reacts, quiet, stops_from, stops_second, reacts_from}
use Rattle.am_site.proofs.Settled.{settles, settling_does, with_room}

-- ---- a Got goes out

pub got_goes : (here : Here) (sender : Peer) (place : ℕ) (l : Local) → nat_le place greatest_place ≡ true
    → send here sender.instance (Got sender.incarnation place) l ≡ send_got here sender place l
got_goes here sender place l fits = rw fits refl

pub got_stops : (here : Here) (sender : Peer) (place : ℕ) (l : Local) → nat_le place greatest_place ≡ false → (send_got here sender place l).fits ≡ false
got_stops here sender place l past = rw past refl

-- ---- a piece of a State

-- the place behind all that came is that of what came from the sender then
behind_as : (sender : Peer) (place : ℕ) (span : Span) (s : Settling) → place_behind sender place span s ≡ (reach_of (spans_from sender (with_span sender place span s))).place
behind_as sender place span s =
    ap (λ (o : Option (ByNumber Span)). (reach_of (unwrap_or o [])).place) (sym (at_same sender (with_number place span (spans_from sender s)) s.came))

module _ (tenant : List ℕ) (here : Here) (sender : Peer) (place : ℕ) (is_last : Bool) (items : List Item) (old mid : Site)
    (makes : Makes tenant (accepted here.moment items) old mid) (kept : Keeps old mid) (fits : nat_le (length items) greatest_place ≡ true) where
  abbrev span : Span
  span = record { count = length items; is_last = is_last }

  abbrev accepting : Local → Reaction
  accepting l = stays (accepted here.moment items l)

  accepts_alone : Does tenant accepting old mid
  accepts_alone = record { local = makes; said = refl; fits = refl; keeps = kept }

  abbrev comes : Local → Reaction
  comes = settles (taken sender place span (others here))

  abbrev all_of : ℕ → Local → Reaction
  all_of behind = accepting >> (comes >> send_got here sender behind)

  whole : (l : Local) (behind : ℕ) → behind ≡ place_behind sender place span l.settling → all_of behind l ≡ take_state here sender place is_last items l
  unfolding take_state accepted
  whole l behind is = rw (is ∙ behind_as sender place span l.settling, fits) refl

  module _ (room : Room) (behind : ℕ) (is : behind ≡ place_behind sender place span (local_of tenant old).settling)
      (becomes : Becomes tenant (on (taken sender place span (others here))) mid.settling.progress room.progress) (timed : AreTimed mid.settling → AreTimed room) where
    came : Does tenant comes mid (with_room mid room)
    came = settling_does tenant (taken sender place span (others here)) (on (taken sender place span (others here))) mid room (λ p. refl) becomes timed (λ p. refl)

    pub state_taken : (new : Site) (x y : List Spoken) → Reacts tenant (send_got here sender behind) (with_room mid room) new x y
        → Reacts tenant (take_state here sender place is_last items) old new x y
    state_taken new x y sent =
        reacts_from tenant (all_of behind) (take_state here sender place is_last items) old (whole (local_of tenant old) behind is) new x y
        (in_turn_reacts tenant accepting (comes >> send_got here sender behind) old mid x x new y (quiet tenant accepting old mid x accepts_alone)
        (in_turn_reacts tenant comes (send_got here sender behind) mid (with_room mid room) x x new y (quiet tenant comes mid (with_room mid room) x came) sent))

    pub state_stops : (x : List Spoken) (fault : Fault) → StopsReacting tenant (send_got here sender behind) (with_room mid room) fault
        → StopsReacting tenant (take_state here sender place is_last items) old fault
    state_stops x fault stops =
        stops_from tenant (all_of behind) (take_state here sender place is_last items) old (whole (local_of tenant old) behind is) fault
        (stops_second tenant accepting (comes >> send_got here sender behind) old mid x x fault (quiet tenant accepting old mid x accepts_alone)
        (stops_second tenant comes (send_got here sender behind) mid (with_room mid room) x x fault (quiet tenant comes mid (with_room mid room) x came) stops))

-- the place behind what came, as it settles once the items were accepted
pub kept_behind : (tenant : List ℕ) (here : Here) (sender : Peer) (place : ℕ) (is_last : Bool) (items : List Item) (old mid : Site) → Makes tenant (accepted here.moment items) old mid
    → (behind : ℕ) → behind ≡ place_behind sender place (record { count = length items; is_last = is_last }) (settling_of tenant mid.settling.progress)
    → behind ≡ place_behind sender place (record { count = length items; is_last = is_last }) (local_of tenant old).settling
unfolding local_of accepted
kept_behind tenant here sender place is_last items old mid makes behind is =
    is ∙ ap (λ (l : Local). place_behind sender place (record { count = length items; is_last = is_last }) l.settling) (own tenant _ _ _ (makes tenant))

too_many : (here : Here) (sender : Peer) (place : ℕ) (is_last : Bool) (items : List Item) (l : Local) → nat_le (length items) greatest_place ≡ false
    → (take_state here sender place is_last items l).fits ≡ false
unfolding take_state
too_many here sender place is_last items l past = rw past refl

pub stops_too_many : (refused : List (List ℕ)) (given : Given) (sender : Peer) (place : ℕ) (is_last : Bool) (items : List Item) (site : Site)
    → nat_le (length items) greatest_place ≡ false → StopsTaking refused given sender place is_last items site CountsExhausted
stops_too_many refused given sender place is_last items site past = too_many (here_of given) sender place is_last items (local_of given.tenant.now site) past

-- why it stops that way
pub stops_taking : (refused : List (List ℕ)) (given : Given) (sender : Peer) (place : ℕ) (is_last : Bool) (items : List Item) (site : Site) (fault : Fault)
    → StopsReacting given.tenant.now (take_state (here_of given) sender place is_last items) site fault
    → StopsTaking refused given sender place is_last items site fault
stops_taking refused given sender place is_last items site OutOfMemory stops = tt
stops_taking refused given sender place is_last items site CountsExhausted stops = stops
stops_taking refused given sender place is_last items site PatternNotBuilt stops = absurd stops
stops_taking refused given sender place is_last items site StoreRefused stops = absurd stops

-- ---- a Got that came

named : (here : Here) (from : Peer) (place : ℕ) (l : Local) → is_got from (present_at here from.instance) l.settling ≡ true
    → settles (after_got from (present_at here from.instance) place) l ≡ take_got here from place l
unfolding take_got
named here from place l e = rw e refl

pub got_taken : (tenant : List ℕ) (here : Here) (from : Peer) (place : ℕ) (old : Site) (room : Room)
    → is_got from (present_at here from.instance) (local_of tenant old).settling ≡ true
    → Becomes tenant (on (after_got from (present_at here from.instance) place)) old.settling.progress room.progress → (AreTimed old.settling → AreTimed room)
    → Does tenant (take_got here from place) old (with_room old room)
got_taken tenant here from place old room is becomes timed =
    let present = present_at here from.instance in
    does_from tenant (settles (after_got from present place)) (take_got here from place) old (named here from place (local_of tenant old) is) (with_room old room)
    (settling_does tenant (after_got from present place) (on (after_got from present place)) old room (λ p. refl) becomes timed (λ p. refl))
