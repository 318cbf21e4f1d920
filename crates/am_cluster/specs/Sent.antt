-- Messages that were sent: none is forgotten, and each is there to be delivered, any number of times, until it is lost.
use Rattle.std.specs.Prelude.{ℕ, Bool, true, false, ◌&&◌, ◌||◌, ◌==◌, nat_le, List, Option, Some, None, find, map}
use Rattle.std.specs.Prelude.{if◌then◌else◌}
use Rattle.am_item.specs.Retirement.{moment_after}
use Rattle.am_cluster.specs.Messages.{Message}
use Rattle.am_cluster.specs.Reactions.{Said, messages_in}

-- a message is lost at the first tick so many milliseconds or more after it was sent
abbrev pub message_life : ℕ
message_life = 60_000

-- a message that was sent, the moment at which it was, and whether the transport gave it up
pub record Sent : Type 0 where
  pub message : Message
  pub moment : ℕ
  pub given_up : Bool

abbrev pub sent_at : (moment : ℕ) → List Said → List Sent
sent_at moment said = map (λ m. record { message = m; moment = moment; given_up = false }) (messages_in said)

-- It is lost. (What is sent is never sent before the clock, so that the clock tells whether there was such a tick.)
abbrev pub is_lost : (clock : ℕ) → Sent → Bool
is_lost clock sent = sent.given_up || nat_le (moment_after sent.moment message_life) clock

abbrev pub is_named : (from incarnation to count : ℕ) → Sent → Bool
is_named from incarnation to count sent =
    sent.message.from == from && (sent.message.incarnation == incarnation
    && (sent.message.to == to && sent.message.count == count))

-- the message, where it isn't lost
abbrev pub unlost : (clock : ℕ) → Option Sent → Option Message
unlost clock None = None
unlost clock (Some sent) = if is_lost clock sent then None else Some sent.message

-- the message of a name that is there to be delivered
unfoldable pub posted : (clock from incarnation to count : ℕ) → List Sent → Option Message
posted clock from incarnation to count sent = unlost clock (find (is_named from incarnation to count) sent)

-- once the transport gave up the message of a name
abbrev pub with_given_up : (from incarnation to count : ℕ) → List Sent → List Sent
with_given_up from incarnation to count sent =
    map (λ (s : Sent). if is_named from incarnation to count s then record s { given_up = true } else s) sent
