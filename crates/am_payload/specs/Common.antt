-- What all alerts of a notice have, as the code has it.
use Rattle.std.specs.Prelude.{◌≡◌, Bool, List, map}
use Rattle.std.specs.List.Sorted.{IsStrictlySortedBy}
use Rattle.am_item.specs.declared.item.Alert.{Alert}
use Rattle.am_item.specs.declared.stamp.Stamped.{Stamped}
use Rattle.am_labels.specs.Labels.{name_cmp}
use Rattle.am_payload.specs.declared.common.Common.{Common}
use Rattle.am_payload.specs.Webhook.{common_annotations, common_labels}

-- these are the labels and the annotations that all of the alerts have, in order of name
pub record IsCommon (alerts : List (Stamped Alert × Bool)) (common : Common) : Type 0 where
  pub labels : map (λ label. label.now) common.labels.items ≡ common_labels alerts
  pub annotations : map (λ label. label.now) common.annotations.items ≡ common_annotations alerts
  pub labels_rise : IsStrictlySortedBy name_cmp (map (λ label. label.now) common.labels.items)
  pub annotations_rise : IsStrictlySortedBy name_cmp (map (λ label. label.now) common.annotations.items)
