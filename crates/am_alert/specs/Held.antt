-- What is read off the items that are held of a tenant.
use Rattle.std.specs.Prelude.{ℕ, List, Bool, nat_lt, Option, Some, None, option_map, filter}
use Rattle.std.specs.List.{filter_map}
use Rattle.std.specs.List.Sorted.{IsStrictlySortedBy}
use Rattle.am_labels.specs.declared.Label.{Label}
use Rattle.am_labels.specs.Labels.{labels_cmp}
use Rattle.am_item.specs.declared.item.Alert.{Alert}
use Rattle.am_item.specs.declared.item.Item.{Item}
use Rattle.am_item.specs.declared.item.Thing.{Thing}
use Rattle.am_item.specs.declared.item.Thing.TheVariants as thing
use Rattle.am_item.specs.declared.stamp.Stamp.{Stamp}
use Rattle.am_item.specs.declared.stamp.Stamped.{Stamped}
use Rattle.am_item.specs.Best.{item_at}
use Rattle.am_item.specs.declared.key.ThingKey.TheVariants.{Alert as AlertKey}

-- the stamp moment of the alert with this label set, where there is one
abbrev pub seen : List Label → List Item → Option ℕ
seen labels held = option_map (λ i. i.stamp.moment) (item_at (AlertKey labels) held)

-- the alert that a thing is, with its stamp
abbrev pub stamped : Stamp → Thing → Option (Stamped Alert)
stamped stamp (thing.Alert alert) = Some (record { stamp = stamp; value = alert })
stamped stamp (thing.Configuration text) = None
stamped stamp (thing.Silence silence) = None
stamped stamp (thing.SentEntry entry) = None

-- the alerts among items, in their order
abbrev pub alerts_among : List Item → List (Stamped Alert)
alerts_among items = filter_map (λ i. stamped i.stamp i.thing) items

-- an alert fires until its end
abbrev pub fires : ℕ → Stamped Alert → Bool
fires moment alert = nat_lt moment alert.value.ends_at

-- the alerts that fire, in their order
abbrev pub firing : ℕ → List Item → List (Stamped Alert)
firing moment held = filter (λ alert. fires moment alert) (alerts_among held)

-- each label set is below those after it
abbrev pub AreRising : List (Stamped Alert) → Type 0
AreRising alerts = IsStrictlySortedBy (λ a b. labels_cmp a.value.labels b.value.labels) alerts
