use Rattle.std.proofs.Common.{◌≡◌, drop}
use Rattle.am_ring.specs.Instances.{all_differ}
use Rattle.am_ring.proofs.ring.differ.Given as goal

abbrev pub invariant-loop-i : goal.invariant-loop-i
invariant-loop-i l = all_differ l.fn.numbers ≡ all_differ (drop l.i l.numbers)
