use Rattle.std.proofs.Common.{◌≡◌, string_bytes, take}
use Rattle.am_labels.specs.Flat.{flat}
use Rattle.am_labels.proofs.flat.flat.Given as goal

abbrev pub invariant-loop-label : goal.invariant-loop-label
invariant-loop-label l = string_bytes l.text ≡ flat (take l.label-index l.labels)
