use Rattle.std.proofs.Common.{List, [], sym, subst}
use Rattle.std.specs.List.Sorted.{IsStrictlySortedBy}
use Rattle.am_labels.specs.Labels.{labels_cmp}
use Rattle.am_labels.specs.declared.Label.{Label}
use Rattle.am_notifier.proofs.sets.no_sets.Goals as goal

none_rise : IsStrictlySortedBy labels_cmp []
unfolding IsStrictlySortedBy
none_rise = tt

pub unreachable-requires : goal.unreachable-requires
unreachable-requires c = c.in-None.ensures (subst (λ (sets : List (List Label)). IsStrictlySortedBy labels_cmp sets) (sym c.new.ensures.items) none_rise)
