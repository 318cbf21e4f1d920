use Rattle.std.proofs.Common.{◌≡◌, drop, map}
use Rattle.std.specs.List.Sorted.{IsStrictlySortedBy}
use Rattle.am_labels.specs.Labels.{name_cmp}
use Rattle.am_payload.specs.Told.{told_alerts}
use Rattle.am_payload.specs.Webhook.{common_annotations, common_labels}
use Rattle.am_payload.proofs.Among.{kept_by}
use Rattle.am_payload.proofs.common.common_of.Given as goal

abbrev pub invariant-loop-told : goal.invariant-loop-told
invariant-loop-told l =
    (kept_by (map (λ told. told.0.value.labels) (told_alerts (drop l.told-index l.others))) (map (λ label. label.now) l.labels.items) ≡ common_labels (told_alerts l.fn.alerts))
    × ((kept_by (map (λ told. told.0.value.annotations) (told_alerts (drop l.told-index l.others))) (map (λ label. label.now) l.annotations.items) ≡ common_annotations (told_alerts l.fn.alerts))
    × (IsStrictlySortedBy name_cmp (map (λ label. label.now) l.labels.items)
    × IsStrictlySortedBy name_cmp (map (λ label. label.now) l.annotations.items)))
