-- The items of one kind.
use Rattle.std.specs.Prelude.{Bool, true, false, List, filter}
use Rattle.am_item.specs.declared.item.Item.{Item}
use Rattle.am_item.specs.declared.item.Thing.{Thing}
use Rattle.am_item.specs.declared.item.Thing.TheVariants.{Configuration, Silence, Alert, SentEntry}

-- the thing is a silence
abbrev pub is_silence : Thing → Bool
is_silence (Silence silence) = true
is_silence (Configuration text) = false
is_silence (Alert alert) = false
is_silence (SentEntry entry) = false

-- the thing is an alert
abbrev pub is_alert : Thing → Bool
is_alert (Alert alert) = true
is_alert (Configuration text) = false
is_alert (Silence silence) = false
is_alert (SentEntry entry) = false

-- the thing is a sent entry
abbrev pub is_sent_entry : Thing → Bool
is_sent_entry (SentEntry entry) = true
is_sent_entry (Configuration text) = false
is_sent_entry (Silence silence) = false
is_sent_entry (Alert alert) = false

-- the silences, alerts and sent entries of a list, in its order
abbrev pub silences_of : List Item → List Item
silences_of items = filter (λ (item : Item). is_silence item.thing) items

abbrev pub alerts_of : List Item → List Item
alerts_of items = filter (λ (item : Item). is_alert item.thing) items

abbrev pub entries_of : List Item → List Item
entries_of items = filter (λ (item : Item). is_sent_entry item.thing) items
