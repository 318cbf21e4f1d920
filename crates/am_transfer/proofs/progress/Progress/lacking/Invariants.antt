use Rattle.std.proofs.Common.{◌≡◌, take}
use Rattle.am_transfer.specs.Settling.{lacking}
use Rattle.am_transfer.proofs.progress.Progress.lacking.Given as goal

abbrev pub invariant-loop-other : goal.invariant-loop-other
invariant-loop-other l = l.left.items ≡ lacking (take l.other-index l.others) l.self.settling
