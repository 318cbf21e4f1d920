-- The trace of a scenario: what happened, event by event, and the lines that are written of it.
use Rattle.std.specs.Prelude.{◌≡◌, ℕ, List, [], ◌∷◌, ◌++◌, map, slice_get, Option, None, Some, string_bytes}
use Rattle.std.specs.List.{flat_map}
use Rattle.am_event.specs.declared.event.Event.{Event}
use Rattle.am_event.specs.declared.output.Output.{Output}
use Rattle.am_event.specs.declared.output.Output.TheVariants.{Reply, Notice, Send}
use Rattle.am_event.specs.declared.refused.Refused.{Refused}
use Rattle.am_world.specs.Shelves.{Shelf}
use Rattle.am_report.specs.declared.report.Report.{Report}
use Rattle.am_report.specs.Output.{notice_line, refusal_line, reply_line}
use Rattle.am_report.specs.Tries.{tries_in}

-- the line of a reply on the connection of this name, where it has one
abbrev pub named_line : List ℕ → Option (List ℕ) → List ℕ
named_line bytes None = []
named_line bytes (Some name) = reply_line name bytes

-- the line of an output, where a connection's number is the place of its name; a message has none
abbrev pub output_line : List (List ℕ) → Output → List ℕ
output_line names (Reply c bytes) = named_line bytes (slice_get names c)
output_line names (Notice attempt tries url bytes) = notice_line attempt tries url bytes
output_line names (Send message) = []

-- what the trace keeps of an event: its outputs, why it was refused, if it was, the names of connections, how many
-- faults had come then, which patterns each instance had been refused the build of, and what was seen of the stores
pub record Happened : Type 0 where
  pub event : Event
  pub outputs : List Output
  pub refused : Option Refused
  pub names : List (List ℕ)
  pub faults : ℕ
  pub unbuilt : ℕ → List (List ℕ)
  pub shelves : List Shelf

-- the lines of what happened: those of its outputs, and then that of its refusal
abbrev pub text_of : Happened → List ℕ
text_of h = flat_map (output_line h.names) h.outputs ++ refusal_line h.refused

-- the events of a trace, all their outputs, and all their lines
abbrev pub events : List Happened → List Event
events trace = map (λ (h : Happened). h.event) trace

abbrev pub outputs : List Happened → List Output
outputs trace = flat_map (λ (h : Happened). h.outputs) trace

abbrev pub printed : List Happened → List ℕ
printed trace = flat_map text_of trace

-- no fault had come after any event of the trace
abbrev pub no_fault : List Happened → Type 0
no_fault [] = Unit {0}
no_fault (h ∷ trace) = (h.faults ≡ 0) × no_fault trace

-- the patterns that each instance had been refused the build of at the end of a trace, where it had been refused these
-- before it
abbrev pub unbuilt_after : (ℕ → List (List ℕ)) → List Happened → ℕ → List (List ℕ)
unbuilt_after before [] = before
unbuilt_after before (h ∷ trace) = unbuilt_after h.unbuilt trace

-- .. of a trace that begins with a new world
abbrev pub unbuilt : List Happened → ℕ → List (List ℕ)
unbuilt trace = unbuilt_after (λ i. []) trace

-- what was seen of the stores at the end of a trace, where this was seen before it
abbrev pub shelves_after : List Shelf → List Happened → List Shelf
shelves_after before [] = before
shelves_after before (h ∷ trace) = shelves_after h.shelves trace

-- a report grew by a trace: by its lines, and by the tries that went out in it
pub record Grows (old new : Report) (trace : List Happened) : Type 0 where
  pub text : string_bytes new.text ≡ string_bytes old.text ++ printed trace
  pub tries : new.tries.items ≡ old.tries.items ++ tries_in (outputs trace)

-- .. of which this holds
abbrev pub Reports : Report → Report → (List Happened → Type 0) → Type 0
Reports old new Holds = (trace : List Happened) × Grows old new trace × Holds trace
