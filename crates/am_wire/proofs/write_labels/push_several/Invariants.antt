use Rattle.std.proofs.Common.{◌≡◌, ◌++◌, All, take}
use Rattle.std.specs.List.{flat_map}
use Rattle.am_wire.specs.LabelFields.{HasTexts, label_bytes}
use Rattle.am_wire.proofs.write_labels.push_several.Given as goal

abbrev pub invariant-loop-label : goal.invariant-loop-label
invariant-loop-label l =
    (l.out.items ≡ l.initial.out.items ++ flat_map label_bytes (take l.label-index l.labels))
    × All HasTexts (take l.label-index l.labels)
