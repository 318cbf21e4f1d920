use Rattle.std.proofs.Common.{◌≡◌, map, take}
use Rattle.am_labels.specs.Sets.{value_of}
use Rattle.am_inhibit.proofs.key.Key.of.Given as goal

abbrev pub invariant-loop-name : goal.invariant-loop-name
invariant-loop-name l = map (λ value. value.now) l.values.items ≡ map (λ name. value_of name l.set) (take l.name-index l.names)
