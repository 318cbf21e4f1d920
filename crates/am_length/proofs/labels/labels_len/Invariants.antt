use Rattle.std.proofs.Common.{◌≡◌, take}
use Rattle.am_length.specs.Capped.{capped}
use Rattle.am_length.specs.Lengths.{labels_length}
use Rattle.am_length.proofs.labels.labels_len.Given as goal

abbrev pub invariant-loop-label : goal.invariant-loop-label
invariant-loop-label l = l.total ≡ capped (labels_length (take l.label-index l.labels))
