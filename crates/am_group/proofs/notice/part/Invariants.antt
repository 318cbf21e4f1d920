use Rattle.std.proofs.Common.{◌≡◌, map, take}
use Rattle.am_alert.specs.HeldAlert.{held_alert}
use Rattle.am_group.specs.Notices.{firing_at, resolved_at}
use Rattle.am_group.proofs.notice.part.Given as goal

abbrev pub invariant-loop-alert : goal.invariant-loop-alert
invariant-loop-alert l = record {
  all : map held_alert l.all.items ≡ map held_alert (take l.alert-index l.alerts);
  firing : map held_alert l.firing.items ≡ firing_at l.moment (map held_alert (take l.alert-index l.alerts));
  resolved : map held_alert l.resolved.items ≡ resolved_at l.moment (map held_alert (take l.alert-index l.alerts));
}
