-- What an instance has of a tenant once what is retired at a moment is gone.
use Rattle.std.specs.Prelude.{ℕ, List, filter, not}
use Rattle.am_notifier.specs.Planned.{with_alerts, with_living}
use Rattle.am_book.specs.Retired.{is_key_retired}
use Rattle.am_item.specs.Key.{AlertKey}
use Rattle.am_item.specs.declared.item.Item.{Item}
use Rattle.am_labels.specs.declared.Label.{Label}
use Rattle.am_members.specs.declared.known.Known.{Known}
use Rattle.am_node.specs.Local.{Local}
pub use Rattle.am_replica.specs.Retiring.{items_left}

-- of these alerts those that aren't retired
abbrev pub alerts_left : ℕ → List Item → List (List Label × Known) → List (List Label × Known)
alerts_left moment held alerts = filter (λ a. not (is_key_retired moment held (AlertKey a.0))) alerts

-- retired items go, and with the alerts the last flushes of groups that have no members
unfoldable pub retired : ℕ → Local → Local
retired moment local = record local {
  held = items_left moment local.held;
  plan = with_living (with_alerts (alerts_left moment local.held local.plan.grouped.alerts) local.plan);
}
