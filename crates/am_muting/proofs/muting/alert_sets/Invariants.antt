use Rattle.std.proofs.Common.{◌≡◌, map, take}
use Rattle.am_muting.proofs.muting.alert_sets.Given as goal

abbrev pub invariant-loop-kept : goal.invariant-loop-kept
invariant-loop-kept l = map (λ set. set.now) l.sets.items ≡ map (λ entry. entry.0) (take l.kept-index l.alerts)
