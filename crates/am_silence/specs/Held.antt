-- What is held of silences: all of them, those that are active, and those that take an alert.
use Rattle.std.specs.Prelude.{ℕ, not, List, Option, Some, None, option_and_then, filter, map, count_by}
use Rattle.std.specs.List.{filter_map, flat_map}
use Rattle.am_labels.specs.declared.Label.{Label}
use Rattle.am_match.specs.Matchers.{MatcherText}
use Rattle.am_match.specs.Meaning.{all_take}
use Rattle.am_item.specs.Best.{item_at}
use Rattle.am_item.specs.declared.key.ThingKey.TheVariants.{Silence as SilenceKey}
use Rattle.am_item.specs.declared.item.Item.{Item}
use Rattle.am_item.specs.declared.item.Thing.{Thing}
use Rattle.am_item.specs.declared.item.Thing.TheVariants as thing
use Rattle.am_item.specs.declared.silence.SilenceDetails.{SilenceDetails}
use Rattle.am_item.specs.declared.stamp.Stamp.{Stamp}
use Rattle.am_item.specs.declared.stamp.Stamped.{Stamped}
use Rattle.am_silence.specs.declared.held.HeldSilence.{HeldSilence}
use Rattle.am_silence.specs.Silences.{Details, details_in, details_of, is_active, is_expired}

-- a silence that is held: its identifier, its stamp, and what it is
pub record SilenceValue : Type 0 where
  pub id : List ℕ
  pub stamp : Stamp
  pub details : Details

-- the silence that a thing is, with its stamp
abbrev pub stamped : Stamp → Thing → Option SilenceValue
stamped stamp (thing.Silence silence) = Some (record { id = silence.id; stamp = stamp; details = details_in silence })
stamped stamp (thing.Configuration text) = None
stamped stamp (thing.Alert alert) = None
stamped stamp (thing.SentEntry entry) = None

abbrev pub silence_in : Item → Option SilenceValue
silence_in item = stamped item.stamp item.thing

-- the silences among items, in their order
abbrev pub silences_among : List Item → List SilenceValue
silences_among items = filter_map silence_in items

-- the silence of this identifier, where one is held
abbrev pub silence_at : List ℕ → List Item → Option SilenceValue
silence_at id held = option_and_then silence_in (item_at (SilenceKey id) held)

-- those that are active at the moment, in order
abbrev pub active_among : ℕ → List Item → List SilenceValue
active_among moment held = filter (λ s. is_active moment s.details.starts_at s.details.ends_at) (silences_among held)

-- how many have not expired
unfoldable pub unexpired : ℕ → List Item → ℕ
unexpired moment held = count_by (λ s. not (is_expired moment s.details)) (silences_among held)

-- the identifiers of those silences whose matchers all take the labels, in their order
abbrev pub taking : List SilenceValue → List Label → List (List ℕ)
taking silences labels = map (λ s. s.id) (filter (λ s. all_take s.details.matchers labels) silences)

-- the identifiers of the active silences that silence an alert with these labels, in order
unfoldable pub silencing : ℕ → List Item → List Label → List (List ℕ)
silencing moment held labels = taking (active_among moment held) labels

-- the matchers of silences
abbrev pub matchers_in : List SilenceValue → List MatcherText
matchers_in silences = flat_map (λ s. s.details.matchers) silences

-- ---- borrowed silences

-- what is held under an identifier
abbrev pub held_under : List ℕ → Stamped SilenceDetails → SilenceValue
held_under id held = record { id = id; stamp = held.stamp; details = details_of held.value }

-- a borrowed silence
abbrev pub held_silence : HeldSilence → SilenceValue
held_silence silence = held_under silence.id.now silence.held.now

-- what is held under identifiers
abbrev pub all_held : List (List ℕ × Stamped SilenceDetails) → List SilenceValue
all_held entries = map (λ entry. held_under entry.0 entry.1) entries
