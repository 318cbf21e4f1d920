use Rattle.std.proofs.Common.{◌≡◌, map}
use Rattle.am_listing.specs.Listed.{read_alert}
use Rattle.am_listing.proofs.receivers.read_alerts.Given as goal

abbrev pub invariant-loop-routed : goal.invariant-loop-routed
invariant-loop-routed l = l.read.items ≡ map read_alert l.yielded
