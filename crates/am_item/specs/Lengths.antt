-- How many bytes spell an item in a message.
use Rattle.std.specs.Prelude.{ℕ, ◌+◌, List, length, sum_by}
use Rattle.am_length.specs.Capped.{capped}
use Rattle.am_length.specs.Lengths.{label_sets_length, labels_length, matchers_length}
use Rattle.am_length.specs.Lengths.{optional_text_length, text_length}
use Rattle.am_item.specs.Details.{alert_details, entry_details, entry_key, silence_details}
use Rattle.am_item.specs.declared.entry.EntryDetails.{EntryDetails}
use Rattle.am_item.specs.declared.entry.EntryKey.{EntryKey}
use Rattle.am_item.specs.declared.item.AlertDetails.{AlertDetails}
use Rattle.am_item.specs.declared.item.Item.{Item}
use Rattle.am_item.specs.declared.item.Thing.{Thing}
use Rattle.am_item.specs.declared.item.Thing.TheVariants.{Configuration, Silence, Alert, SentEntry}
use Rattle.am_item.specs.declared.silence.SilenceDetails.{SilenceDetails}
use Rattle.am_item.specs.declared.stamp.Stamped.{Stamped}

-- an item's kind in a byte, and its stamp: a moment in 8, an instance in 1, an incarnation in 4, a count in 8
abbrev pub head_length : ℕ
head_length = 22

-- what a silence is beside its identifier: three moments in 8 bytes each, two texts and matchers
abbrev pub silence_details_length : SilenceDetails → ℕ
silence_details_length s = 24 + text_length s.created_by + text_length s.comment + matchers_length s.matchers

-- what an alert is beside its label set: two moments in 8 bytes each, annotations and a text
abbrev pub alert_details_length : AlertDetails → ℕ
alert_details_length a = 16 + labels_length a.annotations + text_length a.generator_url

-- the key of a sent entry: two texts, and a webhook in a byte
abbrev pub entry_key_length : EntryKey → ℕ
entry_key_length k = 1 + text_length k.receiver + text_length k.group

-- what a sent entry is beside its key: a moment in 8 bytes, and two lists of label sets
abbrev pub entry_details_length : EntryDetails → ℕ
entry_details_length e = 8 + label_sets_length e.firing + label_sets_length e.resolved

-- a thing: what names it within its kind, and what it is beside that
abbrev pub thing_length : Thing → ℕ
thing_length (Configuration text) = optional_text_length text
thing_length (Silence silence) = length silence.id + silence_details_length (silence_details silence)
thing_length (Alert alert) = labels_length alert.labels + alert_details_length (alert_details alert)
thing_length (SentEntry entry) = entry_key_length (entry_key entry) + entry_details_length (entry_details entry)

-- an item: its kind, its stamp and its thing
unfoldable pub spelled_length : Item → ℕ
spelled_length item = head_length + thing_length item.thing

-- the item of what is held under a key, by the lengths of both
abbrev pub kept_length : {K V : Type 0} → (K → ℕ) → (V → ℕ) → K × Stamped V → ℕ
kept_length key_length value_length kept = head_length + (key_length kept.0 + value_length kept.1.value)

-- the items of what is held under several keys, each in 64 bits
abbrev pub total_length : {K V : Type 0} → (K → ℕ) → (V → ℕ) → List (K × Stamped V) → ℕ
total_length key_length value_length entries =
    sum_by (λ kept. capped (kept_length key_length value_length kept)) entries
