use Rattle.std.proofs.Common.{◌≡◌, map, take}
use Rattle.am_alert.specs.HeldAlert.{held_alert}
use Rattle.am_group.specs.Notices.{sets_of}
use Rattle.am_group.proofs.notice.sets_of.Given as goal

abbrev pub invariant-loop-alert : goal.invariant-loop-alert
invariant-loop-alert l = l.sets.items ≡ sets_of (map held_alert (take l.alert-index l.alerts))
