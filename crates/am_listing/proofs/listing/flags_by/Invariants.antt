use Rattle.std.proofs.Common.{◌≡◌, map, take}
use Rattle.am_listing.specs.Listed.{has_taken}
use Rattle.am_listing.specs.declared.receivers.RoutedAlert.{RoutedAlert}
use Rattle.am_listing.proofs.listing.flags_by.Given as goal

abbrev pub invariant-loop-alert : goal.invariant-loop-alert
invariant-loop-alert l = l.flags.items ≡ map (λ (r : RoutedAlert). has_taken l.taken r.receivers) (take l.alert-index l.alerts)
