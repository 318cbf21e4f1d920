use Rattle.std.proofs.Common.{◌≡◌, false, ◌++◌, map, if◌then◌else◌}
use Rattle.std.specs.Map.Iter.{deref}
use Rattle.am_timer.specs.Tied.{has_timer}
use Rattle.am_timer.specs.Timer.{Timer}
use Rattle.am_transfer.specs.Timers.{is_for}
use Rattle.am_transfer.proofs.progress.Progress.cancel.Given as goal

abbrev pub invariant-loop-instance : goal.invariant-loop-instance
invariant-loop-instance l =
    (x : Timer) → has_timer l.timers.timers x ≡ (if is_for l.tenant (l.fn.self.asked ++ map deref l.yielded) x then false else has_timer l.fn.timers.timers x)
