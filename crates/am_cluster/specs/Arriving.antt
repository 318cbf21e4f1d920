-- What a message does at the instance that it reaches.
use Rattle.std.specs.Prelude.{ℕ, Bool, ◌&&◌, not, ◌==◌, List, if◌then◌else◌}
use Rattle.am_item.specs.declared.item.Item.{Item}
use Rattle.am_cluster.specs.Accepting.{accepted}
use Rattle.am_cluster.specs.Here.{Here, is_replica_here, present_at}
use Rattle.am_cluster.specs.Local.{Local, is_settled}
use Rattle.am_cluster.specs.Messages.{Ack, Answer, Ask, Body, Get, Got, Message, Put, State, is_answer}
use Rattle.am_cluster.specs.Operating.{Decide, acked, answered}
use Rattle.am_transfer.specs.Peers.{Peer, peer}
use Rattle.am_cluster.specs.Reactions.{Reaction, only_if, stays, ◌>>◌}
use Rattle.am_cluster.specs.Sending.{send}
use Rattle.am_transfer.specs.Settling.{goes_to}
use Rattle.am_cluster.specs.Transfers.{answer_ask, asks_first, take_got, take_state}

-- ---- what becomes of it

-- the instance is meant: by an Answer or Ack that names its incarnation, wherever its operation is open; and at a
-- replica by every other message, but for a State that names another incarnation of its receiver, and a Got that
-- names another incarnation of the State's sender or comes from another one than that to which the State now goes
abbrev pub is_meant : Here → Message → Body → Local → Bool
is_meant here message (Answer operation incarnation items) local = incarnation == here.incarnation
is_meant here message (Ack operation incarnation) local = incarnation == here.incarnation
is_meant here message (Get operation) local = is_replica_here here
is_meant here message (Put operation items) local = is_replica_here here
is_meant here message (Ask incarnation) local = is_replica_here here
is_meant here message (State incarnation place is_last items) local =
    is_replica_here here && incarnation == here.incarnation
is_meant here message (Got incarnation place) local =
    is_replica_here here && (incarnation == here.incarnation
    && message.incarnation == goes_to message.from (present_at here message.from) local.settling)

pub data Arrival : Type 0 where
  -- it does nothing
  Dropped : Arrival
  -- an Answer or Ack of another epoch than the known one: it counts for its operation, and brings nothing else
  Counted : Arrival
  -- it does what it is for, and counts as a message that the instance got
  Taken : Arrival

-- a message of another epoch than the instance knows is dropped, but for an Answer or an Ack
abbrev pub arrival : Here → Message → Local → Arrival
arrival here message local =
    if not (is_meant here message message.body local) then Dropped
    else if message.epoch == here.epoch then Taken
    else if is_answer message.body then Counted else Dropped

-- ---- what it does

-- a settled replica answers a Get with its best items
abbrev pub answer_get : Here → (asker : Peer) → (operation : ℕ) → Local → Reaction
answer_get here asker operation local =
    only_if (is_settled here local) (send here asker.instance (Answer operation asker.incarnation local.held)) local

-- every replica accepts the items of a Put, and its store has them, before it sends the Ack; operation 0 wants none
abbrev pub take_put : Here → (sender : Peer) → (operation : ℕ) → List Item → Local → Reaction
take_put here sender operation items local =
    only_if (not (operation == 0)) (send here sender.instance (Ack operation sender.incarnation))
    (accepted here.moment items local)

-- what each kind does. (What answers a Get or a Put is of its epoch, which is the known one.)
abbrev pub does : Decide → Here → Message → Body → Local → Reaction
does decide here message (Get operation) local =
    answer_get here (peer message.from message.incarnation) operation local
does decide here message (Answer operation incarnation items) local =
    answered decide here operation message.epoch (record { from = message.from; items = items }) local
does decide here message (Put operation items) local =
    take_put here (peer message.from message.incarnation) operation items local
does decide here message (Ack operation incarnation) local = acked operation message.epoch message.from local
does decide here message (Ask incarnation) local = answer_ask here (peer message.from incarnation) local
does decide here message (State incarnation place is_last items) local =
    take_state here (peer message.from message.incarnation) place is_last items local
does decide here message (Got incarnation place) local =
    take_got here (peer message.from message.incarnation) place local

-- after what answers it, a message that is taken brings the first Asks of an unsettled replica
abbrev pub arrive_as : Arrival → Decide → Here → Message → Local → Reaction
arrive_as Dropped decide here message local = stays local
arrive_as Counted decide here message local = does decide here message message.body local
arrive_as Taken decide here message local = (does decide here message message.body >> asks_first here) local

unfoldable pub arrive : Decide → Here → Message → Local → Reaction
arrive decide here message local = arrive_as (arrival here message local) decide here message local
