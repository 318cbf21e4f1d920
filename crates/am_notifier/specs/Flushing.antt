-- The flush of a group: what its members that nothing mutes give to tell each webhook of its receiver.
use Rattle.std.specs.Prelude.{◌≡◌, ℕ, Bool, true, false, not, List, [], ◌∷◌, filter, find, Option, Some, None}
use Rattle.std.specs.Prelude.{option_map, if◌then◌else◌}
use Rattle.std.specs.BTreeMap.{is_at}
use Rattle.std.specs.List.{filter_map, list_any}
use Rattle.std.specs.Map.{lookup}
use Rattle.am_agenda.specs.Plan.{with_desk, with_flush, flush_due, group_in}
use Rattle.am_alert.specs.Held.{alerts_among}
use Rattle.am_alert.specs.HeldAlert.{held_under}
use Rattle.am_item.specs.declared.entry.EntryDetails.{EntryDetails}
use Rattle.am_item.specs.declared.entry.EntryKey.{EntryKey}
use Rattle.am_item.specs.declared.item.Alert.{Alert}
use Rattle.am_item.specs.declared.item.AlertDetails.{AlertDetails}
use Rattle.am_item.specs.declared.item.Item.{Item}
use Rattle.am_item.specs.declared.item.Thing.{Thing}
use Rattle.am_item.specs.declared.item.Thing.TheVariants as thing
use Rattle.am_item.specs.declared.stamp.Stamp.{Stamp}
use Rattle.am_item.specs.declared.stamp.Stamped.{Stamped}
use Rattle.am_labels.specs.Labels.{labels_cmp}
use Rattle.am_labels.specs.declared.Label.{Label}
use Rattle.am_members.specs.declared.group.Group.{Group as Name}
use Rattle.am_members.specs.Grouped.{members}
use Rattle.am_members.specs.Names.{is_set}
use Rattle.am_outlet.specs.Attempts.{Desk, without, is_due}
use Rattle.am_telling.specs.Tellings.{tellings, webhook_keys}
use Rattle.am_telling.specs.declared.telling.Telling.{Telling}
use Rattle.am_context.specs.declared.context.Context.{Context}
use Rattle.am_config.specs.Configuration.{Configuration}
use Rattle.am_timer.specs.declared.key.FlushKey.{FlushKey}
use Rattle.am_notifier.specs.declared.next.Next.{Next}
use Rattle.am_notifier.specs.Delivery.{MayTell, told}
use Rattle.am_notifier.specs.Notifies.{Notifies, with_plan}
use Rattle.am_notifier.specs.Steps.{Step, each, stays}

-- what was told before, as a thing that is held
abbrev pub sent_entry : Stamp → Thing → Option (EntryKey × Stamped EntryDetails)
sent_entry stamp (thing.SentEntry entry) = Some (
  record { receiver = entry.receiver; group = entry.group; webhook = entry.webhook },
  record {
    stamp = stamp;
    value = record {
      ends_at = entry.ends_at;
      firing = entry.firing;
      resolved = entry.resolved;
    };
  },
)
sent_entry stamp (thing.Configuration text) = None
sent_entry stamp (thing.Silence silence) = None
sent_entry stamp (thing.Alert alert) = None

-- what was told before, among items
abbrev pub sent_among : List Item → List (EntryKey × Stamped EntryDetails)
sent_among items = filter_map (λ i. sent_entry i.stamp i.thing) items

-- the alert of a label set, where it is held
abbrev pub alert_at : List Label → List Item → Option (Stamped Alert)
alert_at labels held = find (λ alert. is_set labels alert.value.labels) (alerts_among held)

-- the alerts of these members, but for those of these label sets
abbrev pub alerts_but : (muted : List (List Label)) → List Item → List (List Label × ℕ) → List (Stamped Alert)
alerts_but muted held all =
    filter_map (λ member. alert_at member.0 held) (filter (λ member. not (list_any (is_set member.0) muted)) all)

-- without the attempts of these keys
abbrev pub without_keys : List EntryKey → Desk → Desk
without_keys [] desk = desk
without_keys (key ∷ keys) desk = without_keys keys (without key desk)

-- the last flush of the group is now, and no attempt to tell of it is open any more
abbrev pub begun : (moment : ℕ) → Configuration → Name → Notifies → Notifies
begun moment c group notifies =
    with_plan
    (with_desk (without_keys (webhook_keys c group) notifies.plan.desk) (with_flush group moment notifies.plan))
    notifies

-- a group is flushed by a configuration, where these items are held and these label sets muted: that is noted, and the
-- webhooks of its receiver are told, in their order, of what they weren't told before
unfoldable pub flushed : Context → Configuration → (held : List Item) → (muted : List (List Label)) → Name → Notifies
    → Step
flushed context c held muted group notifies =
    each (told context)
    (tellings c group (sent_among held) (alerts_but muted held (members group notifies.plan.grouped.alerts))
    context.moment)
    (begun context.moment c group notifies)

-- .. if its flush is due
abbrev pub flushed_if : Bool → Context → Configuration → (held : List Item) → (muted : List (List Label)) → Name
    → Notifies → Step
flushed_if true context c held muted group notifies = flushed context c held muted group notifies
flushed_if false context c held muted group notifies = stays notifies

abbrev pub flushed_due : Context → Configuration → (held : List Item) → (muted : List (List Label)) → FlushKey
    → Notifies → Step
flushed_due context c held muted key notifies =
    flushed_if (is_due context.moment (flush_due notifies.plan.paces notifies.plan.grouped key)) context c held muted
    (group_in key) notifies

-- those come next where a step is made, in which no count passes the greatest
pub record Says (those : List Next) (step : Step) : Type 0 where
  pub next : those ≡ step.next
  pub fits : step.fits ≡ true

-- none of these finds an attempt of its key open, where they are told one after the other
abbrev pub MayTellAll : Context → List Telling → Notifies → Type 0
MayTellAll context [] notifies = Unit {0}
MayTellAll context (telling ∷ tellings) notifies =
    MayTell telling notifies × MayTellAll context tellings (told context telling notifies).notifies

-- ---- members as the code has them

-- the alert of a label set, where it is held under it and isn't muted
abbrev pub unmuted_at : (muted : List (List Label)) → List (List Label × Stamped AlertDetails) → List Label
    → Option (Stamped Alert)
unmuted_at muted entries labels =
    if list_any (is_set labels) muted then None
    else option_map (held_under labels) (lookup (is_at (labels_cmp labels)) entries)

-- .. of several label sets
abbrev pub unmuted_among : (muted : List (List Label)) → List (List Label × Stamped AlertDetails)
    → List (List Label × ℕ) → List (Stamped Alert)
unmuted_among muted entries all = filter_map (λ member. unmuted_at muted entries member.0) all
