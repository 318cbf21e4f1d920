-- Messages that were sent and aren't lost, by their names.
use Rattle.std.specs.Prelude.{◌≡◌, ℕ, Bool, true, false, nat_le, ◌==◌, List, map, Option, Some, None, if◌then◌else◌}
use Rattle.std.specs.BTreeSet.{BTreeSet, contains}
use Rattle.std.specs.Map.{lookup}
use Rattle.std.specs.Ordering.{nat_cmp, ordering_then}
use Rattle.std.specs.declared.cmp.Ordering.{Ordering}
use Rattle.am_item.specs.Retirement.{moment_after}
use Rattle.am_wire.specs.declared.message.Message.{Message}
use Rattle.am_messages.specs.declared.messages.Lapse.{Lapse}
use Rattle.am_messages.specs.declared.messages.Posted.{Posted}
use Rattle.am_messages.specs.declared.name.MessageName.{MessageName}
use Rattle.am_messages.specs.Names.{name_cmp, name_of, same_name}

-- a message is lost at the first tick so many milliseconds or more after it was sent
abbrev pub message_life : ℕ
message_life = 60_000

-- from when on it is
abbrev pub lost_at : Posted → ℕ
lost_at posted = moment_after posted.sent_at message_life

-- the message of a name, where it was sent and isn't lost
abbrev pub posted_at : MessageName → List (MessageName × Posted) → Option Posted
posted_at name posted = lookup (λ other. same_name name other) posted

-- this is the message of its name now, and those of all other names stay
abbrev pub Sends : Message → (sent_at : ℕ) → List (MessageName × Posted) → List (MessageName × Posted) → Type 0
Sends message sent_at old new =
    (name : MessageName) → posted_at name new ≡ (if same_name (name_of message) name
    then Some (record { message = message; sent_at = sent_at }) else posted_at name old)

-- there is no message of this name any more, and those of all other names stay
abbrev pub Loses : MessageName → List (MessageName × Posted) → List (MessageName × Posted) → Type 0
Loses lost old new =
    (name : MessageName) → posted_at name new ≡ (if same_name lost name then None else posted_at name old)

-- a message that is there, unless it is lost at this moment
abbrev pub unlost : (now : ℕ) → Option Posted → Option Posted
unlost now None = None
unlost now (Some posted) = if nat_le (lost_at posted) now then None else Some posted

-- the messages with whose they are
abbrev pub pairs_of : List (MessageName × Posted) → List (List ℕ × Posted)
pairs_of posted = map (λ e. (e.0.tenant, e.1)) posted

-- ---- when each is lost

-- lapses in order: by moment, then name
abbrev pub lapse_cmp : Lapse → Lapse → Ordering
lapse_cmp a b = ordering_then (nat_cmp a.at b.at) (name_cmp a.name b.name)

abbrev pub has_lapse : BTreeSet Lapse → Lapse → Bool
has_lapse lapses lapse = contains lapse_cmp lapses lapse

abbrev pub lapse_of : MessageName → Posted → Lapse
lapse_of name posted = record { at = lost_at posted; name = name }

-- each message has its lapse
abbrev pub AreTimed : List (MessageName × Posted) → BTreeSet Lapse → Type 0
AreTimed posted lapses =
    (name : MessageName) (p : Posted) → posted_at name posted ≡ Some p → has_lapse lapses (lapse_of name p) ≡ true

-- a message that is there, unless this is when it is lost
abbrev pub kept_over : (at : ℕ) → Option Posted → Option Posted
kept_over at None = None
kept_over at (Some posted) = if lost_at posted == at then None else Some posted

-- whether there is one, and this is when it is lost
abbrev pub is_over : (at : ℕ) → Option Posted → Bool
is_over at None = false
is_over at (Some posted) = lost_at posted == at

-- the message of a lapse's name went, where this was when it is lost, and those of all other names stay
abbrev pub Forgets : Lapse → List (MessageName × Posted) → List (MessageName × Posted) → Type 0
Forgets lapse old new =
    (name : MessageName) → posted_at name new ≡ (if same_name lapse.name name
    then kept_over lapse.at (posted_at name old) else posted_at name old)
