-- The messages that wait to be delivered.
use Rattle.std.specs.Prelude.{ℕ, ◌==◌, ◌&&◌, not, Bool, List, [], ◌∷◌, map, filter, if◌then◌else◌}
use Rattle.std.specs.List.{flat_map}
use Rattle.am_event.specs.declared.output.Output.{Output}
use Rattle.am_event.specs.declared.output.Output.TheVariants.{Reply, Notice, Send}
use Rattle.am_messages.specs.Names.{name_of}
use Rattle.am_messages.specs.declared.name.MessageName.{MessageName}
use Rattle.am_scenario.specs.declared.command.Way.{Way}
use Rattle.am_tenant.specs.Names.{same}
use Rattle.am_wire.specs.Messages.{body_number, kind_of_body}
use Rattle.am_wire.specs.declared.message.Message.{Message}
use Rattle.am_report.specs.declared.mail.Letter.{Letter}

-- a message as it waits: by its name, and the number of its kind
abbrev pub letter_of : Message → Letter
letter_of m = record { name = name_of m; kind = body_number (kind_of_body m.body) }

-- what waits by an output: a message does
abbrev pub letters_by : Output → List Letter
letters_by (Reply c bytes) = []
letters_by (Notice attempt tries url bytes) = []
letters_by (Send message) = letter_of message ∷ []

-- what waits by outputs, in order
abbrev pub letters_in : List Output → List Letter
letters_in outputs = flat_map letters_by outputs

-- a letter is about the tenant of a way, and of its kind
unfoldable pub is_about : Way → Letter → Bool
is_about way letter = same letter.name.tenant way.tenant && letter.kind == way.kind

-- it goes from the one instance of a way to the other
unfoldable pub is_between : Way → Letter → Bool
is_between way letter = letter.name.from == way.from && letter.name.to == way.to

-- it goes this way
abbrev pub goes : Way → Letter → Bool
goes way letter = is_about way letter && is_between way letter

-- all but the first of which it is so
abbrev pub without_first : {X : Type 0} → (X → Bool) → List X → List X
without_first is [] = []
without_first is (x ∷ xs) = if is x then xs else x ∷ without_first is xs

-- of letters that were handed over, and of each whether it is done with, those that aren't
abbrev pub kept_of : List (Letter × Bool) → List Letter
kept_of handed = map (λ (one : Letter × Bool). one.0) (filter (λ (one : Letter × Bool). not one.1) handed)

-- whether a letter is of this name
unfoldable pub is_named : MessageName → Letter → Bool
is_named name letter =
    same letter.name.tenant name.tenant && (letter.name.from == name.from
    && (letter.name.incarnation == name.incarnation
    && (letter.name.to == name.to && letter.name.count == name.count)))
