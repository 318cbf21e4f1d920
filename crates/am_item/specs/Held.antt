-- What is held of a tenant, as one list of items in the order of keys.
use Rattle.std.specs.Prelude.{ℕ, List, [], ◌∷◌, ◌++◌, Option, Some, None}
use Rattle.am_item.specs.Sorted.{IsOrdered}
use Rattle.std.specs.Cmp.Lexicographic.{slice_cmp}
use Rattle.std.specs.Ordering.{nat_cmp}
use Rattle.am_labels.specs.declared.Label.{Label}
use Rattle.am_labels.specs.Labels.{labels_cmp}
use Rattle.am_item.specs.EntryKey.{entry_cmp}
use Rattle.am_item.specs.declared.entry.EntryDetails.{EntryDetails}
use Rattle.am_item.specs.declared.entry.EntryKey.{EntryKey}
use Rattle.am_item.specs.declared.held.Held.TheInside.{Inside}
use Rattle.am_item.specs.declared.entry.SentEntry.{SentEntry}
use Rattle.am_item.specs.declared.item.Alert.{Alert}
use Rattle.am_item.specs.declared.item.AlertDetails.{AlertDetails}
use Rattle.am_item.specs.declared.item.Item.{Item}
use Rattle.am_item.specs.declared.item.Thing.TheVariants as thing
use Rattle.am_item.specs.declared.silence.Silence.{Silence}
use Rattle.am_item.specs.declared.silence.SilenceDetails.{SilenceDetails}
use Rattle.am_item.specs.declared.stamp.Stamped.{Stamped}

-- what is held of a configuration, as an item
abbrev pub configuration_item : Stamped (Option (List ℕ)) → Item
configuration_item held = record { stamp = held.stamp; thing = thing.Configuration held.value }

-- a silence of its identifier and of what it is beside that
abbrev pub silence_of : List ℕ → SilenceDetails → Silence
silence_of id details = record {
  id = id;
  starts_at = details.starts_at;
  ends_at = details.ends_at;
  kept_until = details.kept_until;
  created_by = details.created_by;
  comment = details.comment;
  matchers = details.matchers;
}

-- an alert of its label set and of what it is beside that
abbrev pub alert_of : List Label → AlertDetails → Alert
alert_of labels details = record {
  labels = labels;
  annotations = details.annotations;
  starts_at = details.starts_at;
  ends_at = details.ends_at;
  generator_url = details.generator_url;
}

-- a sent entry of its key and of what it is beside that
abbrev pub entry_of : EntryKey → EntryDetails → SentEntry
entry_of key details = record {
  receiver = key.receiver;
  group = key.group;
  webhook = key.webhook;
  ends_at = details.ends_at;
  firing = details.firing;
  resolved = details.resolved;
}

-- what is held of a silence, as an item
abbrev pub silence_item : List ℕ → Stamped SilenceDetails → Item
silence_item id held = record { stamp = held.stamp; thing = thing.Silence (silence_of id held.value) }

-- what is held of an alert, as an item
abbrev pub alert_item : List Label → Stamped AlertDetails → Item
alert_item labels held = record { stamp = held.stamp; thing = thing.Alert (alert_of labels held.value) }

-- what is held of a sent entry, as an item
abbrev pub entry_item : EntryKey → Stamped EntryDetails → Item
entry_item key held = record { stamp = held.stamp; thing = thing.SentEntry (entry_of key held.value) }

-- what is held under each name, as items
abbrev pub items_by : {K V : Type 0} → (K → V → Item) → List (K × V) → List Item
items_by item_of [] = []
items_by item_of ((key, value) ∷ entries) = item_of key value ∷ items_by item_of entries

-- the configuration, where there is one
abbrev pub configuration_items : Option (Stamped (Option (List ℕ))) → List Item
configuration_items None = []
configuration_items (Some held) = configuration_item held ∷ []

-- all that is held: the configuration, then silences, alerts, sent entries
unfoldable pub items_in : Inside → List Item
items_in held =
    configuration_items held.configuration
    ++ (items_by silence_item held.silences
    ++ (items_by alert_item held.alerts
    ++ items_by entry_item held.sent))

-- each kind is in order
pub record AreOrdered (held : Inside) : Type 0 where
  pub silences : IsOrdered (slice_cmp nat_cmp) held.silences
  pub alerts : IsOrdered labels_cmp held.alerts
  pub sent : IsOrdered entry_cmp held.sent
