use Rattle.std.proofs.Common.{◌≡◌, take}
use Rattle.am_length.specs.Capped.{capped}
use Rattle.am_length.specs.Lengths.{label_sets_length}
use Rattle.am_length.proofs.labels.label_sets_len.Given as goal

abbrev pub invariant-loop-set : goal.invariant-loop-set
invariant-loop-set l = l.total ≡ capped (label_sets_length (take l.set-index l.sets))
