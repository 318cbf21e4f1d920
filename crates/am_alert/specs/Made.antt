-- The items that a posted list makes.
use Rattle.std.specs.Prelude.{ℕ, ◌+◌, ◌^◌, ◌≡◌, max, min, List, [], ◌∷◌, filter, map, Bool, true, false, not, nat_le, Option, Some, None, Result, Ok, Err, if◌then◌else◌}
use Rattle.std.specs.Global.{Vec}
use Rattle.std.specs.List.{list_any, list_all, zip}
use Rattle.std.specs.Ordering.{is_eq}
use Rattle.am_text.specs.Moment.{greatest_moment}
use Rattle.am_labels.specs.declared.Label.{Label}
use Rattle.am_labels.specs.Labels.{labels_cmp}
use Rattle.am_item.specs.declared.fault.Fault.{Fault}
use Rattle.am_item.specs.declared.fault.Fault.TheVariants.{CountsExhausted, OutOfMemory, PatternNotBuilt, StoreRefused}
use Rattle.am_item.specs.declared.item.Alert.{Alert}
use Rattle.am_item.specs.declared.item.Item.{Item}
use Rattle.am_item.specs.declared.item.Thing.TheVariants as thing
use Rattle.am_alert.specs.declared.maker.Maker.{Maker}
use Rattle.am_alert.specs.Held.{seen}

-- an alert with this label set is in the list
abbrev pub is_posted : List Label → List Alert → Bool
is_posted labels alerts = list_any (λ other. is_eq (labels_cmp labels other.labels)) alerts

-- of each label set the last alert, in the order of those places
unfoldable pub last_of_each : List Alert → List Alert
last_of_each [] = []
last_of_each (alert ∷ later) = if is_posted alert.labels later then last_of_each later else alert ∷ last_of_each later

-- of each alert whether no later one has its label set
abbrev pub lasts_among : List Alert → List Bool
lasts_among [] = []
lasts_among (alert ∷ later) = not (is_posted alert.labels later) ∷ lasts_among later

-- the alerts that are chosen, in their order
abbrev pub chosen : List Bool → List Alert → List Alert
chosen choice alerts = map (λ pair. pair.0) (filter (λ pair. pair.1) (zip alerts choice))

-- the moment of the post, or one past what was seen of the key; no later than the greatest moment
abbrev pub stamp_moment : ℕ → Option ℕ → ℕ
stamp_moment moment None = moment
stamp_moment moment (Some before) = max moment (min (before + 1) greatest_moment)

-- the alert as an item with the next count
abbrev pub item_of : List Item → ℕ → Maker → Alert → Item
item_of held moment maker alert = record {
  stamp = record {
    moment = stamp_moment moment (seen alert.labels held);
    instance = maker.instance;
    incarnation = maker.incarnation;
    count = maker.used + 1;
  };
  thing = thing.Alert alert;
}

-- the alerts as items, with one count after another
unfoldable pub items_from : List Item → ℕ → Maker → List Alert → List Item
items_from held moment maker [] = []
items_from held moment maker (alert ∷ alerts) =
    item_of held moment maker alert ∷ items_from held moment (record maker { used = maker.used + 1 }) alerts

-- the items of a posted list: one for each label set
unfoldable pub made : List Item → ℕ → Maker → List Alert → List Item
made held moment maker posted = items_from held moment maker (last_of_each posted)

-- the greatest count that a stamp may have
abbrev pub greatest_count : ℕ
greatest_count = 2 ^ 62

-- no count has passed the greatest
abbrev pub counts_fit : List Item → Bool
counts_fit items = list_all (λ i. nat_le i.stamp.count greatest_count) items

-- what was returned is these items; it fails only where a count would pass the greatest, or where memory runs out
abbrev pub MakesItems : Result (Vec Item) Fault → List Item → Type 0
MakesItems (Ok v) items = (v.items ≡ items) × (counts_fit items ≡ true)
MakesItems (Err CountsExhausted) items = counts_fit items ≡ false
MakesItems (Err OutOfMemory) items = Unit {0}
MakesItems (Err PatternNotBuilt) items = ⊥
MakesItems (Err StoreRefused) items = ⊥
