use Rattle.std.proofs.Common.{◌≡◌, map, take}
use Rattle.am_alert.specs.declared.held.HeldAlert.{HeldAlert}
use Rattle.am_muting.proofs.muting.label_sets.Given as goal

abbrev pub invariant-loop-alert : goal.invariant-loop-alert
invariant-loop-alert l = map (λ set. set.now) l.sets.items ≡ map (λ (a : HeldAlert). a.labels.now) (take l.alert-index l.alerts)
