use Rattle.std.proofs.Common.{◌≡◌, ◌++◌, Bor, List, length, not, filter, map}
use Rattle.std.specs.BTreeSet.{btree_set_len, contains}
use Rattle.std.specs.Ordering.{eq_by_cmp}
use Rattle.std.specs.Set.{is_member}
use Rattle.am_labels.specs.declared.Label.{Label}
use Rattle.am_labels.specs.Labels.{labels_cmp}
use Rattle.am_item.specs.declared.item.Alert.{Alert}
use Rattle.am_api.specs.Fresh.{has_alert, new_count}
use Rattle.am_api.proofs.posting.count_new.Given as goal

abbrev pub invariant-loop-alert : goal.invariant-loop-alert
invariant-loop-alert l =
    (later : List Alert) × (l.posted ≡ l.before ++ later)
    × ((key : Bor (List Label)) → contains (λ a b. labels_cmp a.now b.now) l.new key
    ≡ is_member (eq_by_cmp labels_cmp) (filter (λ labels. not (has_alert l.held labels)) (map (λ (a : Alert). a.labels) later)) key.now)
    × (btree_set_len l.new ≡ new_count l.held later)

abbrev pub decreases-loop-alert : goal.decreases-loop-alert
decreases-loop-alert l = length l.before
