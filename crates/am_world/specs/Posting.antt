-- The messages between instances: what an event posts, and what is there to be delivered.
use Rattle.std.specs.Prelude.{◌≡◌, ◌≤◌, ℕ, Bool, true, false, List, [], ◌∷◌, Option, Some, None, if◌then◌else◌}
use Rattle.std.specs.List.{list_any}
use Rattle.am_cluster.specs.Events.{Notice, Output, Reply, Send}
use Rattle.am_cluster.specs.Sent.{Sent, is_lost}
use Rattle.am_messages.specs.Names.{name_of, same_name}
use Rattle.am_messages.specs.Posted.{posted_at}
use Rattle.am_messages.specs.declared.messages.Posted.{Posted}
use Rattle.am_messages.specs.declared.name.MessageName.{MessageName}
use Rattle.am_instance.specs.Instance.{local_in}
use Rattle.am_instance.specs.declared.instance.Instance.{Instance}
use Rattle.am_world.specs.Places.{At}

-- all messages that are there, by name
abbrev pub Post : Type 0
Post = List (MessageName × Posted)

-- each is under its own name
abbrev pub AreFiled : Post → Type 0
AreFiled post =
    (name : MessageName) (posted : Posted) → posted_at name post ≡ Some posted → name_of posted.message ≡ name

-- ---- what was counted

-- an instance that is up, in the incarnation in which a message of the name was sent, has counted up to it or beyond
abbrev pub HasCounted : MessageName → Instance → Type 0
HasCounted name x =
    x.up ≡ true → x.incarnation ≡ name.incarnation → name.count ≤ (local_in name.tenant x).ledger.messages

-- the sender of each message that is there has, so that a message of its next count is of a name that isn't there
abbrev pub ArePast : Post → List Instance → Type 0
ArePast post instances =
    (name : MessageName) (posted : Posted) → posted_at name post ≡ Some posted →
    At name.from (HasCounted name) instances

-- .. but for one sender
abbrev pub ArePastBut : (i : ℕ) → Post → List Instance → Type 0
ArePastBut i post instances =
    (name : MessageName) (posted : Posted) → (name.from ≡ i → ⊥) → posted_at name post ≡ Some posted →
    At name.from (HasCounted name) instances

-- an instance is in the incarnation in which a message of the name was sent, or in a later one
abbrev pub HasReached : MessageName → Instance → Type 0
HasReached name x = name.incarnation ≤ x.incarnation

-- the sender of each message that is there is, so that in its next incarnation no message that it sends is of a name
-- that is there
abbrev pub AreReached : Post → List Instance → Type 0
AreReached post instances =
    (name : MessageName) (posted : Posted) → posted_at name post ≡ Some posted →
    At name.from (HasReached name) instances

-- ---- what is posted

-- what stands under a name once this is put out at a moment: a message of that name, or what stood there
abbrev pub posted_by : (moment : ℕ) → Output → MessageName → Option Posted → Option Posted
posted_by moment (Reply connection bytes) name before = before
posted_by moment (Notice attempt tries url bytes) name before = before
posted_by moment (Send message) name before =
    if same_name (name_of message) name then Some (record { message = message; sent_at = moment }) else before

-- .. and once all of this is, in order
abbrev pub posted_over : (moment : ℕ) → List Output → MessageName → Option Posted → Option Posted
posted_over moment [] name before = before
posted_over moment (output ∷ outputs) name before =
    posted_over moment outputs name (posted_by moment output name before)

-- all messages among these are there now, and every other is as it was
abbrev pub Posts : (moment : ℕ) → List Output → (old new : Post) → Type 0
Posts moment outputs old new =
    (name : MessageName) → posted_at name new ≡ posted_over moment outputs name (posted_at name old)

-- ---- what is lost

-- this is a message of the name
abbrev pub is_of_name : MessageName → Output → Bool
is_of_name name (Reply connection bytes) = false
is_of_name name (Notice attempt tries url bytes) = false
is_of_name name (Send message) = same_name (name_of message) name

-- every message of no name among these is as it was
abbrev pub SparesOthers : List Output → (old new : Post) → Type 0
SparesOthers outputs old new =
    (name : MessageName) → list_any (is_of_name name) outputs ≡ false → posted_at name new ≡ posted_at name old

-- no message of a name among these is there any more, and every other is as it was
abbrev pub LosesAll : List Output → (old new : Post) → Type 0
LosesAll outputs old new =
    (name : MessageName) → posted_at name new
    ≡ (if list_any (is_of_name name) outputs then None else posted_at name old)

-- every message is as it was
abbrev pub IsSamePost : (old new : Post) → Type 0
IsSamePost old new = (name : MessageName) → posted_at name new ≡ posted_at name old

-- ---- what a private cluster has of it

-- a message that was sent, where it isn't lost, with the moment at which it was
abbrev pub unlost_sent : (clock : ℕ) → Option Sent → Option Posted
unlost_sent clock None = None
unlost_sent clock (Some sent) =
    if is_lost clock sent then None else Some (record { message = sent.message; sent_at = sent.moment })
