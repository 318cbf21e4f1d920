-- Messages that an instance sends: each takes the tenant's next count there.
use Rattle.std.specs.Prelude.{ℕ, ◌+◌, ◌-◌, ◌^◌, ◌&&◌, nat_le, length, List, [], ◌∷◌}
use Rattle.am_alert.specs.Made.{greatest_count}
use Rattle.am_wire.specs.Messages.{spelling}
use Rattle.am_cluster.specs.Here.{Here}
use Rattle.am_cluster.specs.Local.{Local}
use Rattle.am_cluster.specs.Messages.{Body, Message}
use Rattle.am_cluster.specs.Reactions.{Reaction, Sends, each}

-- a whole message has at most so many bytes, those of its length with them
abbrev pub longest_message : ℕ
longest_message = 2 ^ 32 - 1

-- a place in a list, and how many items a piece has, are told in four bytes
abbrev pub greatest_place : ℕ
greatest_place = 2 ^ 32 - 1

abbrev pub message_to : Here → (epoch to count : ℕ) → Body → Message
message_to here epoch to count body = record {
  tenant = here.tenant;
  from = here.instance;
  incarnation = here.incarnation;
  to = to;
  count = count;
  epoch = epoch;
  body = body;
}

-- a message of this epoch goes out
unfoldable pub send_in : (epoch : ℕ) → Here → (to : ℕ) → Body → Local → Reaction
send_in epoch here to body local =
    let count : ℕ = local.ledger.messages + 1 in
    let message : Message = message_to here epoch to count body in
    record {
      local = record local { ledger = record (local.ledger) { messages = count } };
      said = Sends message ∷ [];
      fits = nat_le count greatest_count && nat_le (length (spelling message)) longest_message;
    }

-- .. of the epoch that the instance knows
abbrev pub send : Here → (to : ℕ) → Body → Local → Reaction
send here to body local = send_in here.epoch here to body local

-- the same to several, in their order
abbrev pub send_all : (epoch : ℕ) → Here → List ℕ → Body → Local → Reaction
send_all epoch here to body local = each (λ i. send_in epoch here i body) to local
