use Rattle.std.proofs.Common.{◌≡◌, length}
use Rattle.amring.proofs.stores.next_incarnation.Given as goal

abbrev pub invariant-loop-place : goal.invariant-loop-place
invariant-loop-place g l = length l.stores.items ≡ 8
