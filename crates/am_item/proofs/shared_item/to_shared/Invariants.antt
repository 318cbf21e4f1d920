use Rattle.std.proofs.Common.{◌≡◌}
use Rattle.am_item.proofs.shared_item.to_shared.Given as goal

abbrev pub invariant-loop-item : goal.invariant-loop-item
invariant-loop-item l = l.shared.items ≡ l.yielded
