use Rattle.std.proofs.Common.{◌≡◌}
use Rattle.std.specs.Vec.Iter.{into_iter_items}
use Rattle.serde_json.specs.View.{items_view}
use Rattle.am_alert.specs.Posted.{alerts_of}
use Rattle.am_text.proofs.OutcomeLemmas.{with_front}
use Rattle.am_alert.proofs.posted.alerts_of.Given as goal

abbrev pub invariant-loop-value : goal.invariant-loop-value
invariant-loop-value l =
    with_front l.alerts.items (alerts_of l.moment l.resolve_timeout (items_view (into_iter_items l.value-iterator)))
    ≡ alerts_of l.moment l.resolve_timeout (items_view l.fn.values.items)
