use Rattle.std.proofs.Common.{◌≡◌, map, take}
use Rattle.am_alert.specs.HeldAlert.{held_alert}
use Rattle.am_group.proofs.notice.copies.Given as goal

abbrev pub invariant-loop-alert : goal.invariant-loop-alert
invariant-loop-alert l = map held_alert l.copies.items ≡ map held_alert (take l.alert-index l.alerts)
