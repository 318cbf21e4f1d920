use Rattle.std.proofs.Common.{◌≡◌, map}
use Rattle.am_listing.specs.Listed.{with_places}
use Rattle.am_listing.proofs.receivers.with_places.Given as goal

abbrev pub invariant-loop-numbers : goal.invariant-loop-numbers
invariant-loop-numbers l = l.pairs.items ≡ map (with_places l.config) l.yielded
