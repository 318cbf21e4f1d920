-- Items, their keys, and the order of keys.
use Rattle.std.specs.Prelude.{ℕ, Bool, List}
use Rattle.std.specs.Cmp.Lexicographic.{slice_cmp}
use Rattle.std.specs.Ordering.{is_eq, is_gt, nat_cmp}
use Rattle.std.specs.declared.cmp.Ordering.{Ordering}
use Rattle.am_labels.specs.declared.Label.{Label}
use Rattle.am_labels.specs.Labels.{labels_cmp}
use Rattle.am_item.specs.Details.{entry_key}
use Rattle.am_item.specs.EntryKey.{entry_cmp}
use Rattle.am_item.specs.Stamp.{stamp_cmp}
use Rattle.am_item.specs.declared.entry.EntryKey.{EntryKey}
use Rattle.am_item.specs.declared.item.Item.{Item}
use Rattle.am_item.specs.declared.item.Thing.{Thing}
use Rattle.am_item.specs.declared.item.Thing.TheVariants.{Configuration, Silence, Alert, SentEntry}
use Rattle.am_item.specs.declared.key.ThingKey.{ThingKey}
use Rattle.am_item.specs.declared.key.ThingKey.TheVariants as key

-- what names an item within its tenant: there is one configuration, a silence goes by its identifier, an alert by its
-- label set, a sent entry by receiver, group and webhook
abbrev pub Key : Type 0
Key = ThingKey

abbrev pub ConfigurationKey : ThingKey
ConfigurationKey = key.Configuration

abbrev pub SilenceKey : List ℕ → ThingKey
SilenceKey id = key.Silence id

abbrev pub AlertKey : List Label → ThingKey
AlertKey labels = key.Alert labels

abbrev pub SentEntryKey : EntryKey → ThingKey
SentEntryKey entry = key.SentEntry entry

-- the order of the kinds
abbrev pub kind_of : ThingKey → ℕ
kind_of key.Configuration = 1
kind_of (key.Silence id) = 2
kind_of (key.Alert labels) = 3
kind_of (key.SentEntry entry) = 4

-- keys in order: by kind; silences then by the bytes of their identifiers, alerts by their label sets, sent entries by
-- receiver, group and webhook
unfoldable pub key_cmp : ThingKey → ThingKey → Ordering
key_cmp (key.Silence a) (key.Silence b) = slice_cmp nat_cmp a b
key_cmp (key.Alert a) (key.Alert b) = labels_cmp a b
key_cmp (key.SentEntry a) (key.SentEntry b) = entry_cmp a b
key_cmp a b = nat_cmp (kind_of a) (kind_of b)

-- the key of a thing
abbrev pub key_in : Thing → ThingKey
key_in (Configuration text) = ConfigurationKey
key_in (Silence silence) = SilenceKey silence.id
key_in (Alert alert) = AlertKey alert.labels
key_in (SentEntry entry) = SentEntryKey (entry_key entry)

-- the key of an item
abbrev pub key_of : Item → ThingKey
key_of item = key_in item.thing

-- the item has this key
abbrev pub has_key : ThingKey → Item → Bool
has_key k item = is_eq (key_cmp k (key_of item))

-- x has the greater stamp
abbrev pub exceeds : Item → Item → Bool
exceeds x y = is_gt (stamp_cmp x.stamp y.stamp)
