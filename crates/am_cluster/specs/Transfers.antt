-- How an instance settles: the Asks, States and Gots that it sends, and what they do where they come.
use Rattle.std.specs.Prelude.{ℕ, Bool, true, false, ◌&&◌, not, nat_le, List, [], length, Some, is_none, is_some}
use Rattle.std.specs.Prelude.{if◌then◌else◌}
use Rattle.am_item.specs.declared.item.Item.{Item}
use Rattle.am_cluster.specs.Accepting.{accepted}
use Rattle.am_cluster.specs.Here.{Here, is_replica_here, others, peer_now}
use Rattle.am_cluster.specs.Local.{Local, is_settled, with_settling}
use Rattle.am_cluster.specs.Messages.{Ask, Got, State}
use Rattle.am_transfer.specs.Peers.{Peer}
use Rattle.am_transfer.specs.Pieces.{Piece, SentList, pieces_to_send, reach_of}
use Rattle.am_cluster.specs.Reactions.{Reaction, each, only_if, provided, stays}
use Rattle.am_cluster.specs.Sending.{greatest_place, send}
use Rattle.am_transfer.specs.Settling.{Settling, lacking, named_in, now_settled, list_for as sent_list_for, settled_by}
use Rattle.am_transfer.specs.Settling.{spans_from, with_list, with_push, with_span}

-- ---- Asks

-- an Ask goes out
unfoldable pub ask : Here → (to : ℕ) → Local → Reaction
ask here to local =
    send here to (Ask here.incarnation)
    (with_settling (record (local.settling) { asked_at = Some here.moment }) local)

-- of whom the instance has asked a State that it lacks: it asks again and again
abbrev pub asked : Here → Local → List ℕ
asked here local = if is_some local.settling.asked_at then lacking (others here) local.settling else []

-- an unsettled replica asks those whose State it lacks, once in an epoch and incarnation; the ticks ask again
unfoldable pub asks_first : Here → Local → Reaction
asks_first here local =
    only_if (is_replica_here here && (not (is_settled here local) && is_none local.settling.asked_at))
    (each (ask here) (lacking (others here) local.settling)) local

-- ---- States

-- a piece of the State goes out to a receiver
abbrev pub send_piece : Here → (receiver : Peer) → Piece → Local → Reaction
send_piece here receiver p local =
    provided (nat_le p.place greatest_place)
    (send here receiver.instance (State receiver.incarnation p.place p.is_last p.items)) local

-- what is left of the State goes out to a receiver; its list is what is held when it first does
unfoldable pub send_state : Here → (is_asked : Bool) → (receiver : Peer) → Local → Reaction
send_state here is_asked receiver local =
    let list : SentList = sent_list_for receiver local.held local.settling in
    each (send_piece here receiver) (pieces_to_send is_asked list)
    (with_settling (with_list receiver list local.settling) local)

-- a State is pushed: now, and again until a Got ends that
unfoldable pub push : Here → (receiver : Peer) → Local → Reaction
push here receiver local =
    send_state here false receiver
    (with_settling (with_push receiver.instance receiver.incarnation here.moment local.settling) local)

-- a push begins, to the present incarnation of the receiver
abbrev pub begin_push : Here → (to : ℕ) → Local → Reaction
begin_push here to local = push here (peer_now here to) local

-- ---- what a State, an Ask and a Got do

-- a Got tells up to which place all of a State came
abbrev pub send_got : Here → (sender : Peer) → (place : ℕ) → Local → Reaction
send_got here sender place local =
    provided (nat_le place greatest_place) (send here sender.instance (Got sender.incarnation place)) local

-- a piece of a State is accepted as it comes; perhaps it settles the instance; and a Got tells how far all came
unfoldable pub take_state : Here → (sender : Peer) → (place : ℕ) → (is_last : Bool) → List Item → Local → Reaction
take_state here sender place is_last items local =
    let s : Settling = with_span sender place (record { count = length items; is_last = is_last }) local.settling in
    provided (nat_le (length items) greatest_place) (send_got here sender (reach_of (spans_from sender s)).place)
    (with_settling (settled_by (others here) s) (accepted here.moment items local))

-- an Ask is answered by a settled replica, with the State to the incarnation that it names; that is no push
unfoldable pub answer_ask : Here → (asker : Peer) → Local → Reaction
answer_ask here asker local = only_if (is_settled here local) (send_state here true asker) local

-- a Got names a place of the list; where that is its end, the push is over
unfoldable pub take_got : Here → (receiver : Peer) → (place : ℕ) → Local → Reaction
take_got here receiver place local = stays (with_settling (named_in receiver place local.settling) local)

-- ---- by force

-- a replica that isn't settled becomes so
unfoldable pub forced : Here → Local → Reaction
forced here local =
    stays (if is_replica_here here && not (is_settled here local)
    then with_settling (now_settled local.settling) local else local)
