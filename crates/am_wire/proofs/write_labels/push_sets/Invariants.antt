use Rattle.std.proofs.Common.{◌≡◌, ◌++◌, All, take}
use Rattle.std.specs.List.{flat_map}
use Rattle.am_wire.specs.LabelFields.{IsSetField, labels_bytes}
use Rattle.am_wire.proofs.write_labels.push_sets.Given as goal

abbrev pub invariant-loop-set : goal.invariant-loop-set
invariant-loop-set l =
    (l.out.items ≡ l.initial.out.items ++ flat_map labels_bytes (take l.set-index l.sets))
    × All IsSetField (take l.set-index l.sets)
