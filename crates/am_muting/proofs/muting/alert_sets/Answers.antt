use Rattle.std.proofs.Common.{◌≡◌, List, ap, map, subst, sym, ◌∙◌}
use Rattle.std.specs.List.Sorted.{IsStrictlySortedBy}
use Rattle.std.proofs.lemmas.List.{take_all}
use Rattle.am_labels.specs.Labels.{labels_cmp}
use Rattle.am_labels.specs.declared.Label.{Label}
use Rattle.am_item.specs.declared.item.AlertDetails.{AlertDetails}
use Rattle.am_item.specs.declared.stamp.Stamped.{Stamped}
use Rattle.am_muting.proofs.Chosen.{sets_held}
use Rattle.am_muting.proofs.muting.alert_sets.Goals.{After-loop-kept}
use Rattle.am_muting.proofs.muting.alert_sets.Goals as goal

-- the sets are the keys under which alerts are held
keys : (c : After-loop-kept) → map (λ set. set.now) c.loop-kept.sets.items ≡ map (λ (entry : List Label × Stamped AlertDetails). entry.0) c.alerts.result.now
keys c =
    c.loop-kept.invariant
    ∙ ap (map (λ (entry : List Label × Stamped AlertDetails). entry.0))
    (take_all c.loop-kept.kept-index c.entries-alerts.result.now c.loop-kept-test.false ∙ c.entries-alerts.ensures.entries)

pub returns-clause-sets : goal.returns-clause-sets
returns-clause-sets c = keys c ∙ sets_held c.alerts.result.now c.args.held.now c.alerts.ensures.items

pub returns-clause-rising : goal.returns-clause-rising
returns-clause-rising c = subst (IsStrictlySortedBy labels_cmp) (sym (keys c)) c.entries-alerts.ensures.ordered
