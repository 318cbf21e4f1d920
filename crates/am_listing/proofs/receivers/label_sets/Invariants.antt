use Rattle.std.proofs.Common.{◌≡◌, map, take}
use Rattle.am_listing.specs.declared.muting.MutedAlert.{MutedAlert}
use Rattle.am_listing.proofs.receivers.label_sets.Given as goal

abbrev pub invariant-loop-muted : goal.invariant-loop-muted
invariant-loop-muted l = map (λ set'. set'.now) l.sets.items ≡ map (λ (m : MutedAlert). m.alert.labels.now) (take l.muted-index l.alerts)
