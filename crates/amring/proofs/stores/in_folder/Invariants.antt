use Rattle.std.proofs.Common.{◌≡◌, length}
use Rattle.amring.proofs.stores.in_folder.Given as goal

abbrev pub invariant-loop-instance : goal.invariant-loop-instance
invariant-loop-instance l = length l.stores.items ≡ l.instance-index
