-- How an instance settles changes, of one tenant, and what is sent of that.
use Rattle.std.proofs.Common.{◌≡◌, ℕ, Bool, true, false, ◌&&◌, not, nat_le, List, [], ◌∷◌, ◌++◌, Option, map, Some, None, is_some, is_none, append-nil, ap, refl, sym, ◌∙◌, if◌then◌else◌}
use Rattle.am_cluster.specs.Here.{Here, is_replica_here, others}
use Rattle.am_cluster.specs.Local.{Local, is_settled, with_settling}
use Rattle.am_cluster.specs.Messages.{Ask, State}
use Rattle.am_cluster.specs.Reactions.{Reaction, each, stays, ◌>>◌}
use Rattle.am_cluster.specs.Sending.{greatest_place, send, send_all, send_in}
use Rattle.am_cluster.specs.Transfers.{answer_ask, ask, asks_first, push, send_piece, send_state}
use Rattle.am_context.proofs.Changes.{one_changes, other, own}
use Rattle.am_item.specs.Counts.{count_of}
use Rattle.am_item.specs.declared.fault.Fault.{Fault}
use Rattle.am_item.specs.declared.item.Item.{Item}
use Rattle.am_node.specs.Held.{local_of as local_in_node}
use Rattle.am_quorum.specs.Dockets.{docket_of}
use Rattle.am_tenant.specs.Names.{same}
use Rattle.am_transfer.specs.Peers.{Peer}
use Rattle.am_transfer.specs.Pieces.{Piece, pieces_to_send}
use Rattle.am_transfer.specs.Progress.{Progress, asked_of, first_asked, to_ask}
use Rattle.am_transfer.specs.Settling.{Settling, answered, asking, lacking, list_for, pushed}
use Rattle.am_transfer.specs.Tenants.{Becomes, progress_of}
use Rattle.am_transfer.specs.Timers.{AreTimed, Room}
use Rattle.am_site.specs.Locals.{from_rooms, local_of}
use Rattle.am_site.specs.Reacting.{Does, Makes, Moves, Reacts, StopsReacting, asked_in, said_in}
use Rattle.am_site.specs.declared.said.Said.{Said as Spoken}
use Rattle.am_site.specs.declared.site.Site.{Site}
use Rattle.am_site.proofs.Reacting.{in_turn_reacts, quiet, reacts_from, stops_from, stops_second}

-- with another room for settling
abbrev pub with_room : Site → Room → Site
with_room site room = record { node = site.node; operations = site.operations; sent = site.sent; settling = room; elsewhere = site.elsewhere }

-- how it settles changes so
abbrev pub settles : (Settling → Settling) → Local → Reaction
settles f l = stays (with_settling (f l.settling) l)

module _ (tenant : List ℕ) (f : Settling → Settling) (change : Progress → Progress) (old : Site) (room : Room) (is : (p : Progress) → (change p).settling ≡ f p.settling)
    (becomes : Becomes tenant change old.settling.progress room.progress) (timed : AreTimed old.settling → AreTimed room) where
  settling_made : Makes tenant (λ l. (settles f l).local) old (with_room old room)
  unfolding local_of
  settling_made = one_changes tenant (λ l. (settles f l).local) (λ t. local_of t old) (λ t. local_of t (with_room old room))
      (ap (λ (p : Progress). from_rooms (local_in_node tenant old.node) (docket_of tenant old.operations) (count_of tenant old.sent) p.settling) (own tenant _ _ _ (becomes tenant))
      ∙ ap (λ s. from_rooms (local_in_node tenant old.node) (docket_of tenant old.operations) (count_of tenant old.sent) s) (is (progress_of tenant old.settling.progress)))
      (λ t apart. ap (λ (p : Progress). from_rooms (local_in_node t old.node) (docket_of t old.operations) (count_of t old.sent) p.settling) (other t tenant _ _ _ apart (becomes t)))

  -- .. whomever it asked
  pub settling_moves : (x : List Spoken) → Moves tenant (settles f) old (with_room old room) x x
  settling_moves x = record {
    local = settling_made;
    said = sym (append-nil (map said_in x));
    fits = refl;
    keeps = record {
      incarnation = refl;
      positions = λ t apart. refl;
      asked = λ t apart. ap (λ (p : Progress). p.asked) (other t tenant _ _ _ apart (becomes t));
      timed = timed;
    };
  }

  -- .. where it asked the same
  pub settling_does : ((p : Progress) → (change p).asked ≡ p.asked) → Does tenant (settles f) old (with_room old room)
  settling_does same_asked = record {
    local = settling_made;
    said = refl;
    fits = refl;
    keeps = record {
      incarnation = refl;
      positions = λ t. refl;
      asked = λ t. by t (same t tenant) (becomes t);
      timed = timed;
    };
  }
    where
      by : (t : List ℕ) (b : Bool) → progress_of t room.progress ≡ (if b then change (progress_of t old.settling.progress) else progress_of t old.settling.progress)
          → asked_in t (with_room old room) ≡ asked_in t old
      by t true made = ap (λ (p : Progress). p.asked) made ∙ same_asked (progress_of t old.settling.progress)
      by t false made = ap (λ (p : Progress). p.asked) made

  -- .. and then something is sent
  module _ (same_asked : (p : Progress) → (change p).asked ≡ p.asked) (send react : Local → Reaction)
      (whole : (settles f >> send) (local_of tenant old) ≡ react (local_of tenant old)) (x : List Spoken) where
    settled : Reacts tenant (settles f) old (with_room old room) x x
    settled = quiet tenant (settles f) old (with_room old room) x (settling_does same_asked)

    pub settled_sends : (new : Site) (y : List Spoken) → Reacts tenant send (with_room old room) new x y → Reacts tenant react old new x y
    settled_sends new y sent =
        reacts_from tenant (settles f >> send) react old whole new x y (in_turn_reacts tenant (settles f) send old (with_room old room) x x new y settled sent)

    pub settled_stops : (fault : Fault) → StopsReacting tenant send (with_room old room) fault → StopsReacting tenant react old fault
    settled_stops fault stops =
        stops_from tenant (settles f >> send) react old whole fault (stops_second tenant (settles f) send old (with_room old room) x x fault settled stops)

module _ (here : Here) where
  -- ---- Asks

  abbrev asked_by : List ℕ → Settling → Settling
  asked_by [] s = s
  asked_by (i ∷ receivers) s = asking here.moment s

  -- how it settles, once the first Asks are out
  abbrev pub first_asks : Settling → Settling
  first_asks s = asked_by (to_ask (others here) s) s

  pub first_settling : (p : Progress) → (first_asked here.moment (others here) p).settling ≡ first_asks p.settling
  first_settling p = by (to_ask (others here) p.settling)
    where
      by : (receivers : List ℕ) → (asked_of receivers (others here) here.moment p).settling ≡ asked_by receivers p.settling
      by [] = refl
      by (i ∷ receivers) = refl

  abbrev has_asked : Local → Local
  has_asked l = with_settling (asking here.moment l.settling) l

  -- what is asked of several once it was asked of one
  asks_more : (receivers : List ℕ) (l : Local) → each (ask here) receivers (has_asked l) ≡ send_all here.epoch here receivers (Ask here.incarnation) (has_asked l)
  unfolding ask send_in
  asks_more [] l = refl
  asks_more (i ∷ receivers) l =
      let first : Reaction = send here i (Ask here.incarnation) (has_asked l) in
      ap (λ (next : Reaction). let all : Reaction = record { local = next.local; said = first.said ++ next.said; fits = first.fits && next.fits } in all)
      (asks_more receivers (send here i (Ask here.incarnation) l).local)

  asks_all : (receivers : List ℕ) (l : Local) → (settles (asked_by receivers) >> send_all here.epoch here receivers (Ask here.incarnation)) l ≡ each (ask here) receivers l
  unfolding ask send_in
  asks_all [] l = refl
  asks_all (i ∷ receivers) l =
      let first : Reaction = send here i (Ask here.incarnation) (has_asked l) in
      sym (ap (λ (next : Reaction). let all : Reaction = record { local = next.local; said = first.said ++ next.said; fits = first.fits && next.fits } in all)
      (asks_more receivers (send here i (Ask here.incarnation) l).local))

  pub asks_as : (l : Local) → is_replica_here here ≡ true → is_settled here l ≡ false
      → (settles first_asks >> send_all here.epoch here (to_ask (others here) l.settling) (Ask here.incarnation)) l ≡ asks_first here l
  unfolding asks_first
  asks_as l replica unsettled = rw (replica, unsettled) (by l.settling.asked_at)
    where
      by : (q : Option ℕ)
          → (settles (asked_by (if is_some q then [] else lacking (others here) l.settling))
          >> send_all here.epoch here (if is_some q then [] else lacking (others here) l.settling) (Ask here.incarnation)) l
          ≡ (if is_none q then each (ask here) (lacking (others here) l.settling) l else stays l)
      by None = asks_all (lacking (others here) l.settling) l
      by (Some moment) = refl

  pub asks_nobody : (l : Local) → is_replica_here here ≡ false → asks_first here l ≡ stays l
  unfolding asks_first
  asks_nobody l none = rw none refl

  pub asks_no_more : (l : Local) → is_settled here l ≡ true → asks_first here l ≡ stays l
  unfolding asks_first
  asks_no_more l settled = by (is_replica_here here)
    where
      by : (b : Bool) → (if b && (not (is_settled here l) && is_none l.settling.asked_at) then each (ask here) (lacking (others here) l.settling) l else stays l) ≡ stays l
      by false = refl
      by true = rw settled refl

  -- ---- States

  pub piece_goes : (receiver : Peer) (p : Piece) (l : Local) → nat_le p.place greatest_place ≡ true
      → send here receiver.instance (State receiver.incarnation p.place p.is_last p.items) l ≡ send_piece here receiver p l
  piece_goes receiver p l fits = rw fits refl

  pub piece_stops : (receiver : Peer) (p : Piece) (l : Local) → nat_le p.place greatest_place ≡ false → (send_piece here receiver p l).fits ≡ false
  piece_stops receiver p l past = rw past refl

  pub push_as : (receiver : Peer) (held : List Item) (l : Local) → held ≡ l.held
      → (settles (pushed receiver here.moment held) >> each (send_piece here receiver) (pieces_to_send false (list_for receiver held l.settling))) l ≡ push here receiver l
  unfolding push send_state
  push_as receiver held l is = ap (λ held. (settles (pushed receiver here.moment held) >> each (send_piece here receiver) (pieces_to_send false (list_for receiver held l.settling))) l) is

  pub answer_as : (asker : Peer) (held : List Item) (l : Local) → held ≡ l.held → is_settled here l ≡ true
      → (settles (answered asker held) >> each (send_piece here asker) (pieces_to_send true (list_for asker held l.settling))) l ≡ answer_ask here asker l
  unfolding answer_ask send_state
  answer_as asker held l is settled =
      ap (λ held. (settles (answered asker held) >> each (send_piece here asker) (pieces_to_send true (list_for asker held l.settling))) l) is
      ∙ rw settled refl

  pub answers_none : (asker : Peer) (l : Local) → is_settled here l ≡ false → answer_ask here asker l ≡ stays l
  unfolding answer_ask
  answers_none asker l unsettled = rw unsettled refl
