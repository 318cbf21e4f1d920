use Rattle.std.proofs.Common.{map, take}
use Rattle.am_column.specs.Places.{AreLists}
use Rattle.am_column.proofs.places.places_by.Given as goal

abbrev pub invariant-loop-number : goal.invariant-loop-number
invariant-loop-number l = AreLists (take l.number l.places) (take l.number (map (λ value. value.now) l.values)) l.lists
