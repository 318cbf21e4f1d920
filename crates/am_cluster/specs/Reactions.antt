-- What an instance does where something happens to a tenant: what it has afterwards, and what it says, in order.
use Rattle.std.specs.Prelude.{ℕ, Bool, true, ◌&&◌, List, [], ◌∷◌, ◌++◌, Option, Some, None, if◌then◌else◌}
use Rattle.std.specs.List.{filter_map}
use Rattle.am_outlet.specs.declared.attempt.Sending.{Sending}
use Rattle.am_cluster.specs.Local.{Local}
use Rattle.am_cluster.specs.Messages.{Message}

-- one thing that it says about the tenant
pub data Said : Type 0 where
  -- the reply of a connection
  Replies : (connection : ℕ) (bytes : List ℕ) → Said
  -- a message to another instance or to itself
  Sends : (message : Message) → Said
  -- a try of one of its attempts at a notice
  Tells : (sending : Sending) → Said

-- the messages among what was said
abbrev pub message_in : Said → Option Message
message_in (Replies connection bytes) = None
message_in (Sends message) = Some message
message_in (Tells sending) = None

abbrev pub messages_in : List Said → List Message
messages_in said = filter_map message_in said

-- what it has afterwards, what it says, and whether no count passes the greatest and no message is too long
pub record Reaction : Type 0 where
  pub local : Local
  pub said : List Said
  pub fits : Bool

-- nothing happens
abbrev pub stays : Local → Reaction
stays local = record { local = local; said = []; fits = true }

abbrev pub says : Said → Local → Reaction
says word local = record { local = local; said = word ∷ []; fits = true }

-- one thing after the other
abbrev pub in_turn : Reaction → (Local → Reaction) → Reaction
in_turn first next =
    let other : Reaction = next first.local in
    record { local = other.local; said = first.said ++ other.said; fits = first.fits && other.fits }

infixl 10 ◌>>◌
abbrev pub ◌>>◌ : (Local → Reaction) → (Local → Reaction) → Local → Reaction
(first >> next) local = in_turn (first local) next

-- the same for each of a list, in its order
abbrev pub each : {A : Type 0} → (A → Local → Reaction) → List A → Local → Reaction
each react [] local = stays local
each react (x ∷ xs) local = in_turn (react x local) (each react xs)

-- .. which fits only where something is so
abbrev pub provided : Bool → (Local → Reaction) → Local → Reaction
provided is_so react local = let r : Reaction = react local in record r { fits = is_so && r.fits }

abbrev pub only_if : Bool → (Local → Reaction) → Local → Reaction
only_if test react local = if test then react local else stays local

-- where something is there
abbrev pub where_some : {A : Type 0} → (A → Local → Reaction) → Option A → Local → Reaction
where_some react None local = stays local
where_some react (Some x) local = react x local
