use Rattle.std.proofs.Common.{◌≡◌, map}
use Rattle.am_listing.specs.Listed.{made_routed}
use Rattle.am_listing.proofs.receivers.with_routes.Given as goal

abbrev pub invariant-loop-alert : goal.invariant-loop-alert
invariant-loop-alert l = l.routed.items ≡ map made_routed l.yielded
