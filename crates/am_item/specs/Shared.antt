-- An item that several lists share, or that is held, as an item; and what it is about.
use Rattle.am_item.specs.Held.{alert_item, alert_of, configuration_item, entry_item, entry_of, silence_item, silence_of}
use Rattle.am_item.specs.declared.item.Item.{Item}
use Rattle.am_item.specs.declared.item.Thing.{Thing}
use Rattle.am_item.specs.declared.held_item.HeldItem.{HeldItem}
use Rattle.am_item.specs.declared.held_item.HeldItem.TheVariants as held
use Rattle.am_item.specs.declared.item.Thing.TheVariants as thing
use Rattle.am_item.specs.declared.shared_item.KeptItem.{KeptItem}
use Rattle.am_item.specs.declared.shared_item.KeptItem.TheVariants as kept
use Rattle.am_item.specs.declared.shared_item.Part.{Part}
use Rattle.am_item.specs.declared.shared_item.Part.TheVariants as part

-- the item of which this is kept
abbrev pub item_of : KeptItem → Item
item_of (kept.Configuration held) = configuration_item held
item_of (kept.Silence held) = silence_item held.0 held.1
item_of (kept.Alert held) = alert_item held.0 held.1
item_of (kept.SentEntry held) = entry_item held.0 held.1

-- the item of which this is held
abbrev pub held_as : HeldItem → Item
held_as (held.Configuration kept) = configuration_item kept.now
held_as (held.Silence kept) = silence_item kept.now.0 kept.now.1
held_as (held.Alert kept) = alert_item kept.now.0 kept.now.1
held_as (held.SentEntry kept) = entry_item kept.now.0 kept.now.1

-- the thing that has this part
abbrev pub thing_in : Part → Thing
thing_in (part.Configuration text) = thing.Configuration text.now
thing_in (part.Silence id silence) = thing.Silence (silence_of id.now silence.now)
thing_in (part.Alert labels alert) = thing.Alert (alert_of labels.now alert.now)
thing_in (part.SentEntry key entry) = thing.SentEntry (entry_of key.now entry.now)
