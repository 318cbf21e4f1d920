use Rattle.std.proofs.Common.{◌≡◌, take}
use Rattle.am_transfer.specs.Settling.{to_push}
use Rattle.am_transfer.proofs.progress.Progress.to_push.Given as goal

abbrev pub invariant-loop-other : goal.invariant-loop-other
invariant-loop-other l = l.receivers.items ≡ to_push (take l.other-index l.others) l.before l.self.settling
