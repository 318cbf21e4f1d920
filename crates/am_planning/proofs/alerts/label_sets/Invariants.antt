use Rattle.std.proofs.Common.{◌≡◌, map, take}
use Rattle.am_planning.proofs.alerts.label_sets.Given as goal

abbrev pub invariant-loop-alert : goal.invariant-loop-alert
invariant-loop-alert l = map (λ set'. set'.now) l.sets.items ≡ map (λ alert. alert.0) (take l.alert-index l.alerts)
