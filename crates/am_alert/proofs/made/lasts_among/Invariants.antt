use Rattle.std.proofs.Common.{◌≡◌, ◌++◌, Bor, List, length, reverse}
use Rattle.std.specs.BTreeSet.{contains}
use Rattle.am_labels.specs.declared.Label.{Label}
use Rattle.am_labels.specs.Labels.{labels_cmp}
use Rattle.am_item.specs.declared.item.Alert.{Alert}
use Rattle.am_alert.specs.Made.{is_posted, lasts_among}
use Rattle.am_alert.proofs.made.lasts_among.Given as goal

abbrev pub invariant-loop-alert : goal.invariant-loop-alert
invariant-loop-alert l =
    (later : List Alert) × (l.posted ≡ l.before ++ later)
    × ((key : Bor (List Label)) → contains (λ a b. labels_cmp a.now b.now) l.keys key ≡ is_posted key.now later)
    × (reverse l.lasts.items ≡ lasts_among later)

abbrev pub decreases-loop-alert : goal.decreases-loop-alert
decreases-loop-alert l = length l.before
