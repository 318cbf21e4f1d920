-- What records that webhooks were told.
use Rattle.std.specs.Prelude.{ℕ, ◌+◌, min, List, [], ◌∷◌, Option, option_map}
use Rattle.am_alert.specs.Made.{stamp_moment}
use Rattle.am_context.specs.declared.context.Context.{Context}
use Rattle.am_context.specs.declared.receipt.Receipt.{Receipt}
use Rattle.am_item.specs.Best.{all_joined, item_at}
use Rattle.am_item.specs.Key.{SentEntryKey}
use Rattle.am_item.specs.declared.entry.EntryKey.{EntryKey}
use Rattle.am_item.specs.declared.item.Item.{Item}
use Rattle.am_item.specs.declared.item.Thing.TheVariants as thing
use Rattle.am_labels.specs.declared.Label.{Label}
use Rattle.am_replica.specs.Holds.{Holds}
use Rattle.am_text.specs.Moment.{greatest_moment}

-- the stamp moment of what is recorded of a key, where something is
abbrev pub seen : EntryKey → List Item → Option ℕ
seen key held = option_map (λ (item : Item). item.stamp.moment) (item_at (SentEntryKey key) held)

-- the entry that records, by a stamp of this moment and count, that a webhook was told of alerts that fire and of
-- resolved
-- ones; it is of use for a span of time from that moment on
abbrev pub entry_stamped : Context → EntryKey → (firing resolved : List (List Label)) → (span moment count : ℕ) → Item
entry_stamped context key firing resolved span moment count = record {
  stamp = record {
    moment = moment;
    instance = context.instance;
    incarnation = context.incarnation;
    count = count;
  };
  thing = thing.SentEntry (record {
    receiver = key.receiver;
    group = key.group;
    webhook = key.webhook;
    ends_at = min (moment + span) greatest_moment;
    firing = firing;
    resolved = resolved;
  });
}

-- it is stamped now, or one past what is recorded of the key already, with the next count
abbrev pub entry_of : Context → Receipt → Holds → Item
entry_of context receipt holds =
    entry_stamped context receipt.key receipt.firing receipt.resolved receipt.span
    (stamp_moment context.moment (seen receipt.key holds.held)) (holds.stamps + 1)

-- and accepted
abbrev pub recorded : Context → Receipt → Holds → Holds
recorded context receipt holds = record {
  held = all_joined holds.held (entry_of context receipt holds ∷ []);
  stamps = holds.stamps + 1;
}
