use Rattle.std.proofs.Common.{◌≡◌, ◌++◌, true}
use Rattle.std.specs.Vec.Iter.{into_iter_items}
use Rattle.am_alert.specs.Made.{items_from, counts_fit}
use Rattle.am_alert.proofs.made.items_from.Given as goal

abbrev pub invariant-loop-alert : goal.invariant-loop-alert
invariant-loop-alert l = record {
  so_far : l.items.items ++ items_from l.held l.moment (record l.maker { used = l.used }) (into_iter_items l.alert-iterator) ≡ items_from l.held l.moment l.maker l.fn.alerts.items;
  fit : counts_fit l.items.items ≡ true;
}
