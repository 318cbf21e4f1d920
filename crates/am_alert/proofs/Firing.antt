-- The alerts among items, as they are held under their label sets.
use Rattle.std.proofs.Common.{◌≡◌, ℕ, List, [], ◌∷◌, map, filter, refl, ap}
use Rattle.std.specs.List.{AllByRecursion}
use Rattle.std.specs.List.Sorted.{IsStrictlySortedBy}
use Rattle.std.specs.declared.cmp.Ordering.TheVariants.{Less}
use Rattle.std.proofs.lemmas.List.Kept.{IsStrictlySortedBy-filter}
use Rattle.am_labels.specs.declared.Label.{Label}
use Rattle.am_labels.specs.Labels.{labels_cmp}
use Rattle.am_item.specs.Held.{alert_item, items_by}
use Rattle.am_item.specs.Kinds.{alerts_of}
use Rattle.am_item.specs.declared.item.Alert.{Alert}
use Rattle.am_item.specs.declared.item.AlertDetails.{AlertDetails}
use Rattle.am_item.specs.declared.item.Item.{Item}
use Rattle.am_item.specs.declared.item.Thing.{Thing}
use Rattle.am_item.specs.declared.item.Thing.TheVariants as thing
use Rattle.am_item.specs.declared.stamp.Stamp.{Stamp}
use Rattle.am_item.specs.declared.stamp.Stamped.{Stamped}
use Rattle.am_alert.specs.Held.{AreRising, alerts_among, fires}
use Rattle.am_alert.specs.HeldAlert.{all_held, held_under}

-- what is held under label sets are the alerts among the items
pub among_held : (entries : List (List Label × Stamped AlertDetails)) → alerts_among (items_by alert_item entries) ≡ all_held entries
among_held [] = refl
among_held ((labels, held) ∷ entries) = ap (λ alerts. held_under labels held ∷ alerts) (among_held entries)

-- a thing that is no alert doesn't count among alerts
among_thing : (stamp : Stamp) (t : Thing) (items : List Item) → alerts_among items ≡ alerts_among (alerts_of items)
    → alerts_among (record { stamp = stamp; thing = t } ∷ items) ≡ alerts_among (alerts_of (record { stamp = stamp; thing = t } ∷ items))
among_thing stamp (thing.Alert alert) items rest = ap (λ alerts. record { stamp = stamp; value = alert } ∷ alerts) rest
among_thing stamp (thing.Configuration text) items rest = rest
among_thing stamp (thing.Silence silence) items rest = rest
among_thing stamp (thing.SentEntry entry) items rest = rest

-- the alerts among items are those among the items of that kind
pub among_alerts : (items : List Item) → alerts_among items ≡ alerts_among (alerts_of items)
among_alerts [] = refl
among_alerts (item ∷ items) = among_thing item.stamp item.thing items (among_alerts items)

above : (labels : List Label) (held : Stamped AlertDetails) (entries : List (List Label × Stamped AlertDetails)) → AllByRecursion (λ other. labels_cmp labels other ≡ Less) (map (λ e. e.0) entries)
    → AllByRecursion (λ (b : Stamped Alert). labels_cmp labels b.value.labels ≡ Less) (all_held entries)
above labels held [] below = below
above labels held (entry ∷ entries) below = (below.0, above labels held entries below.1)

-- label sets that rise as keys do so as those of alerts
pub rising_held : (entries : List (List Label × Stamped AlertDetails)) → IsStrictlySortedBy labels_cmp (map (λ e. e.0) entries) → AreRising (all_held entries)
unfolding IsStrictlySortedBy
rising_held [] rising = rising
rising_held (entry ∷ entries) rising = (above entry.0 entry.1 entries rising.0, rising_held entries rising.1)

-- those of them that fire rise too
pub rising_firing : (moment : ℕ) (entries : List (List Label × Stamped AlertDetails)) → IsStrictlySortedBy labels_cmp (map (λ e. e.0) entries)
    → AreRising (filter (λ a. fires moment a) (all_held entries))
rising_firing moment entries rising = IsStrictlySortedBy-filter (λ (a b : Stamped Alert). labels_cmp a.value.labels b.value.labels) (λ a. fires moment a) (all_held entries) (rising_held entries rising)
