use Rattle.std.proofs.Common.{◌-◌, false, filter, get_or, take}
use Rattle.am_ring.specs.Instances.{all_instances}
use Rattle.am_ring.proofs.Strict.{IsFound}
use Rattle.am_ring.proofs.nearest.nearest.Given as goal

abbrev pub invariant-loop-index : goal.invariant-loop-index
invariant-loop-index l = IsFound l.place (filter (λ i. get_or l.left (i - 1) false) (take l.index all_instances)) l.found
