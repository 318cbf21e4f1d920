use Rattle.std.proofs.Common.{◌≡◌, ◌++◌, map}
use Rattle.am_alert.specs.HeldAlert.{held_alert}
use Rattle.am_notifier.specs.Flushing.{unmuted_among}
use Rattle.am_notifier.proofs.unmuting.unmuted_among.Given as goal

abbrev pub invariant-loop-labels : goal.invariant-loop-labels
invariant-loop-labels l =
    map held_alert l.unmuted.items ++ unmuted_among l.muted l.alerts l.labels-iterator ≡ unmuted_among l.muted l.alerts l.sinces.entries
