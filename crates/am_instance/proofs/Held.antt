-- What is held where an instance goes by another ring: what was, but for a tenant of whom it stops being a replica.
use Rattle.std.proofs.Common.{◌≡◌, ◌∙◌, ℕ, Bool, true, false, ◌&&◌, not, List, [], ◌∷◌, ap, refl, codes}
use Rattle.std.proofs.Common.{is_none, if◌then◌else◌}
use Rattle.am_cluster.specs.Here.{Here, is_replica_here, others, peer_now}
use Rattle.am_cluster.specs.Local.{Local, holds_any, is_settled, with_settling}
use Rattle.am_cluster.specs.Operating.{finish, replicas_changed, unavailable}
use Rattle.am_cluster.specs.Operations.{Operation}
use Rattle.am_cluster.specs.Reactions.{Reaction, each, only_if, stays, ◌>>◌}
use Rattle.am_cluster.specs.RingChanges.{are_same, dropped, go_on, push_or_ask, ring_learned}
use Rattle.am_cluster.specs.Sending.{send_in}
use Rattle.am_cluster.specs.Transfers.{ask, asks_first, begin_push, push, send_piece, send_state}
use Rattle.am_item.specs.declared.item.Item.{Item}
use Rattle.am_ring.specs.Instances.{is_among}
use Rattle.am_rows.specs.Rows.{stored_in}
use Rattle.am_transfer.specs.Peers.{Peer}
use Rattle.am_transfer.specs.Pieces.{Piece, SentList, pieces_to_send}
use Rattle.am_transfer.specs.Settling.{in_new_epoch, lacking, list_for, to_push, with_list, with_push}
use Rattle.am_site.specs.Learning.{stops_being_replica}
use Rattle.am_instance.specs.Changing.{rows_kept}

-- what is held stays
abbrev KeepsHeld : (Local → Reaction) → Type 0
KeepsHeld react = (l : Local) → (react l).local.held ≡ l.held

only_held : (b : Bool) (react : Local → Reaction) → KeepsHeld react → KeepsHeld (only_if b react)
only_held true react keeps l = keeps l
only_held false react keeps l = refl

each_held : {A : Type 0} (react : A → Local → Reaction) → ((x : A) → KeepsHeld (react x)) → (xs : List A)
    → KeepsHeld (each react xs)
each_held react keeps [] l = refl
each_held react keeps (x ∷ xs) l = each_held react keeps xs (react x l).local ∙ keeps x l

finish_held : (bytes : List ℕ) (o : Operation) → KeepsHeld (finish bytes o)
unfolding finish
finish_held bytes o l = refl

changed_held : KeepsHeld replicas_changed
unfolding replicas_changed
changed_held l = each_held (finish (unavailable (codes "Q2"))) (finish_held (unavailable (codes "Q2"))) l.operations l

ask_held : (here : Here) (to : ℕ) → KeepsHeld (ask here to)
unfolding ask send_in
ask_held here to l = refl

asks_held : (here : Here) → KeepsHeld (asks_first here)
unfolding asks_first
asks_held here l =
    let lacks = lacking (others here) l.settling in
    only_held (is_replica_here here && (not (is_settled here l) && is_none l.settling.asked_at)) (each (ask here) lacks)
    (each_held (ask here) (ask_held here) lacks) l

piece_held : (here : Here) (receiver : Peer) (p : Piece) → KeepsHeld (send_piece here receiver p)
unfolding send_in
piece_held here receiver p l = refl

state_held : (here : Here) (is_asked : Bool) (receiver : Peer) → KeepsHeld (send_state here is_asked receiver)
unfolding send_state
state_held here is_asked receiver l =
    let list : SentList = list_for receiver l.held l.settling in
    each_held (send_piece here receiver) (piece_held here receiver) (pieces_to_send is_asked list)
    (with_settling (with_list receiver list l.settling) l)

push_held : (here : Here) (to : ℕ) → KeepsHeld (begin_push here to)
unfolding push
push_held here to l =
    let receiver : Peer = peer_now here to in
    state_held here false receiver
    (with_settling (with_push receiver.instance receiver.incarnation here.moment l.settling) l)

push_or_ask_held : (here : Here) (receivers : List ℕ) → KeepsHeld (push_or_ask here receivers)
push_or_ask_held here receivers l =
    only_held (holds_any l) (if is_settled here l then each (begin_push here) receivers else asks_first here)
    (by (is_settled here l)) l
  where
    by : (b : Bool) → KeepsHeld (if b then each (begin_push here) receivers else asks_first here)
    by true m = each_held (begin_push here) (push_held here) receivers m
    by false m = asks_held here m

learned_held : (here : Here) (before : List ℕ) (l : Local)
    → (ring_learned here before l).local.held ≡ (if stops_being_replica here before then [] else l.held)
unfolding ring_learned dropped
learned_held here before l = by (is_replica_here here) (is_among here.instance before)
  where
    mid : Local
    mid = (only_if (not (are_same before here.three)) replicas_changed l).local

    same_held : mid.held ≡ l.held
    same_held = only_held (not (are_same before here.three)) replicas_changed changed_held l

    goes_on : (go_on here before mid).local.held ≡ l.held
    goes_on =
        push_or_ask_held here (to_push (others here) before mid.settling)
        (with_settling (in_new_epoch mid.settling) mid) ∙ same_held

    by : (r a : Bool) → (if r then go_on here before mid else stays (if a then dropped mid else mid)).local.held
        ≡ (if not r && a then [] else l.held)
    by true a = goes_on
    by false true = refl
    by false false = same_held

-- the rows of that
pub learned_rows : (here : Here) (before : List ℕ) (l : Local)
    → stored_in (ring_learned here before l).local.held ≡ rows_kept here before (stored_in l.held)
unfolding stored_in
learned_rows here before l =
    ap stored_in (learned_held here before l) ∙ by (stops_being_replica here before)
  where
    by : (b : Bool) → stored_in (if b then [] else l.held) ≡ (if b then [] else stored_in l.held)
    by true = refl
    by false = refl
