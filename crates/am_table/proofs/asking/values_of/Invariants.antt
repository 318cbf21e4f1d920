use Rattle.std.proofs.Common.{◌≡◌, map, take}
use Rattle.am_labels.specs.Sets.{value_of}
use Rattle.am_table.proofs.asking.values_of.Given as goal

abbrev pub invariant-loop-set : goal.invariant-loop-set
invariant-loop-set l = map (λ value. value.now) l.values.items ≡ map (λ set. value_of l.name set.now) (take l.set-index l.sets)
