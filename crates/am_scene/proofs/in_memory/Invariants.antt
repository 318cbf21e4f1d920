use Rattle.std.proofs.Common.{◌≡◌, length}
use Rattle.am_scene.proofs.in_memory.Given as goal

abbrev pub invariant-loop-number : goal.invariant-loop-number
invariant-loop-number l = length l.stores.items ≡ l._number-index
