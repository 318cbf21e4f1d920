-- Facts about the messages that were sent, for claims over whole runs: names are given once, and a State is one list.
use Rattle.std.specs.Prelude.{◌≡◌, ℕ, Bool, false, ◌&&◌, ◌==◌, Contains, List, [], ◌∷◌, Option, Some, None, filter}
use Rattle.std.specs.Prelude.{find, if◌then◌else◌}
use Rattle.std.specs.List.{filter_map, list_any}
use Rattle.am_item.specs.declared.item.Item.{Item}
use Rattle.am_cluster.specs.Messages.{Body, Get, Answer, Put, Ack, Ask, State, Got, Message}
use Rattle.am_transfer.specs.Peers.{Peer}
use Rattle.am_transfer.specs.Pieces.{Piece, cut}
use Rattle.am_cluster.specs.Sent.{Sent, is_named}

-- all that an instance sent in one incarnation, in order
abbrev pub sent_by : Peer → List Sent → List Sent
sent_by peer sent =
    filter (λ (s : Sent). s.message.from == peer.instance && s.message.incarnation == peer.incarnation) sent

-- one of these messages has the name of another message
abbrev pub has_name_of : Message → List Sent → Bool
has_name_of m sent = list_any (is_named m.from m.incarnation m.to m.count) sent

-- what is found under the name of a message
abbrev pub found_as : Message → List Sent → Option Sent
found_as m sent = find (is_named m.from m.incarnation m.to m.count) sent

-- no two messages have one name
abbrev pub AreNamedOnce : List Sent → Type 0
AreNamedOnce [] = Unit {0}
AreNamedOnce (s ∷ later) = (has_name_of s.message later ≡ false) × AreNamedOnce later

-- a State: who sends it to whom, in which incarnations of the two, and in which epoch
pub record StateName : Type 0 where
  pub from : ℕ
  pub incarnation : ℕ
  pub to : ℕ
  pub to_incarnation : ℕ
  pub epoch : ℕ

-- a message is a piece of this State
abbrev pub is_of_state : StateName → Message → (to_incarnation : ℕ) → Bool
is_of_state name m to_incarnation =
    m.from == name.from && (m.incarnation == name.incarnation && (m.to == name.to
    && (to_incarnation == name.to_incarnation && m.epoch == name.epoch)))

-- .. the piece, where it is one
abbrev pub piece_in : StateName → Message → Body → Option Piece
piece_in name m (State incarnation place is_last items) =
    if is_of_state name m incarnation then Some (record { place = place; is_last = is_last; items = items }) else None
piece_in name m (Get operation) = None
piece_in name m (Answer operation incarnation items) = None
piece_in name m (Put operation items) = None
piece_in name m (Ack operation incarnation) = None
piece_in name m (Ask incarnation) = None
piece_in name m (Got incarnation place) = None

-- the pieces of a State that were sent, each as often as it was
unfoldable pub pieces_sent : StateName → List Sent → List Piece
pieces_sent name sent = filter_map (λ (s : Sent). piece_in name s.message s.message.body) sent

-- a State is one list: each piece of it that was sent is one of those into which that list is cut
pub record IsOneList (name : StateName) (sent : List Sent) : Type 0 where
  pub list : List Item
  pub pieces : (piece : Piece) → Contains (pieces_sent name sent) piece → Contains (cut list) piece

abbrev pub AreLists : List Sent → Type 0
AreLists sent = (name : StateName) → IsOneList name sent
