use Rattle.std.proofs.Common.{◌≡◌, map, take}
use Rattle.am_replica.specs.Coming.{set_of}
use Rattle.am_replica.proofs.accepting.label_sets.Given as goal

abbrev pub invariant-loop-item : goal.invariant-loop-item
invariant-loop-item l = l.sets.items ≡ map set_of (take l.item-index l.items)
