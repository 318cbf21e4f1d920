use Rattle.std.proofs.Common.{rules}
use Rattle.std.specs.Ordering.{is_lt}
use Rattle.std.proofs.lemmas.Fn.{always_returns_same}
use Rattle.am_labels.specs.Labels.{labels_cmp}
use Rattle.am_item.proofs.Adjacent.{not_rising, rising_from_adjacent}
use Rattle.am_item.proofs.label_sets.LabelSets.from_rising.Goals as goal

-- the closure compares two label sets
pub invariant_of-result : goal.invariant_of-result
invariant_of-result c =
    let adjacent = c.if-is_sorted_by.ensures.cases (λ x y. is_lt (labels_cmp x y)) (always_returns_same _ _ _ (λ a r g called. search rules)) in
    rising_from_adjacent c.args.sets.items (rw c.deref.ensures.value at adjacent)

pub returns-else-is_sorted_by : goal.returns-else-is_sorted_by
returns-else-is_sorted_by c =
    let one = c.if-is_sorted_by.ensures.cases (λ x y. is_lt (labels_cmp x y)) (always_returns_same _ _ _ (λ a r g called. search rules)) in
    let there = rw c.deref.ensures.value at one in
    not_rising c.args.sets.items there.0 there.1 there.2
