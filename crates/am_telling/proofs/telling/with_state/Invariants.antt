use Rattle.std.proofs.Common.{◌≡◌, map, take}
use Rattle.am_alert.specs.HeldAlert.{held_alert}
use Rattle.am_payload.specs.Told.{told_alerts}
use Rattle.am_telling.specs.Tellings.{with_state}
use Rattle.am_telling.proofs.telling.with_state.Given as goal

abbrev pub invariant-loop-alert : goal.invariant-loop-alert
invariant-loop-alert l = told_alerts l.told.items ≡ with_state l.moment (map held_alert (take l.alert-index l.alerts))
