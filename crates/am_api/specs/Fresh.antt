-- Posted label sets of which no alert is held.
use Rattle.std.specs.Prelude.{ℕ, Bool, not, List, filter, map, is_some}
use Rattle.std.specs.Ordering.{eq_by_cmp}
use Rattle.std.specs.Set.{distinct_count}
use Rattle.am_labels.specs.declared.Label.{Label}
use Rattle.am_labels.specs.Labels.{labels_cmp}
use Rattle.am_item.specs.declared.item.Alert.{Alert}
use Rattle.am_item.specs.declared.item.Item.{Item}
use Rattle.am_item.specs.Best.{item_at}
use Rattle.am_item.specs.declared.key.ThingKey.TheVariants.{Alert as AlertKey}

-- an alert with this label set is held
abbrev pub has_alert : List Item → List Label → Bool
has_alert held labels = is_some (item_at (AlertKey labels) held)

-- the label sets that are posted and aren't held
abbrev pub new_sets : List Item → List Alert → List (List Label)
new_sets held posted = filter (λ labels. not (has_alert held labels)) (map (λ (alert : Alert). alert.labels) posted)

-- how many they are: those that are equal count once
abbrev pub new_count : List Item → List Alert → ℕ
new_count held posted = distinct_count (eq_by_cmp labels_cmp) (new_sets held posted)
