-- The messages that a world puts out, in one process, where none gets lost on its way: each is delivered once, and then
-- lost, so that the world holds none.
use Rattle.std.specs.Prelude.{ℕ, ◌≡◌, nat_lt, Bool, true, false, List, [], ◌∷◌, ◌++◌, Option, None, Some}
use Rattle.std.specs.Prelude.{drop, find, slice_get, take, if◌then◌else◌}
use Rattle.std.specs.List.{flat_map}
use Rattle.am_event.specs.declared.event.Event.{Event}
use Rattle.am_event.specs.declared.event.Event.TheVariants.{Deliver, Lose}
use Rattle.am_event.specs.declared.output.Output.{Output}
use Rattle.am_event.specs.declared.output.Output.TheVariants.{Reply, Notice, Send}
use Rattle.am_messages.specs.Names.{name_of}
use Rattle.am_messages.specs.declared.name.MessageName.{MessageName}

-- an output is a message
abbrev pub is_message : Output → Bool
is_message (Reply connection bytes) = false
is_message (Notice attempt tries url bytes) = false
is_message (Send message) = true

-- the tenant that messages among outputs are about: that of the first
abbrev pub tenant_in : Option Output → Option (List ℕ)
tenant_in None = None
tenant_in (Some (Reply connection bytes)) = None
tenant_in (Some (Notice attempt tries url bytes)) = None
tenant_in (Some (Send message)) = Some message.tenant

abbrev pub asked_in : List Output → Option (List ℕ)
asked_in outs = tenant_in (find is_message outs)

-- the name of a message
abbrev pub message_in : Output → Option MessageName
message_in (Reply connection bytes) = None
message_in (Notice attempt tries url bytes) = None
message_in (Send message) = Some (name_of message)

-- what happens to a message: it is delivered at a moment
abbrev pub deliveries : (moment : ℕ) → Option MessageName → List Event
deliveries moment None = []
deliveries moment (Some name) = Deliver name moment ∷ []

-- .. and is lost
abbrev pub losses : Option MessageName → List Event
losses None = []
losses (Some name) = Lose name ∷ []

-- .. first the one and then the other
abbrev pub passes_message : (moment : ℕ) → Option MessageName → List Event
passes_message moment message = deliveries moment message ++ losses message

-- the messages among outputs are passed on, one after the other, in order; those behind so many outputs are only lost
abbrev pub passes_within : (most : ℕ) → (moment : ℕ) → List Output → List Event
passes_within most moment outs =
    flat_map (λ output. passes_message moment (message_in output)) (take most outs)
    ++ flat_map (λ output. losses (message_in output)) (drop most outs)

-- .. which are a million
abbrev pub passes : (moment : ℕ) → List Output → List Event
passes moment outs = passes_within 1000000 moment outs

-- ---- one of them

-- the name of the message at a place among outputs
abbrev pub message_where : Option Output → Option MessageName
message_where None = None
message_where (Some output) = message_in output

abbrev pub message_at : (place : ℕ) → List Output → Option MessageName
message_at place outs = message_where (slice_get outs place)

-- what happens to the message at a place
abbrev pub deliveries_at : (place moment : ℕ) → Option MessageName → List Event
deliveries_at place moment message = if nat_lt place 1000000 then deliveries moment message else []

abbrev pub passes_at : (place moment : ℕ) → Option MessageName → List Event
passes_at place moment message = deliveries_at place moment message ++ losses message

-- what was put out first stays, and more may follow
abbrev pub AddsTo : (old new : List Output) → Type 0
AddsTo old new = (more : List Output) × (new ≡ old ++ more)
