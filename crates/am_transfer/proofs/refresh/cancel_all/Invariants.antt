use Rattle.std.proofs.Common.{◌≡◌, false, take, if◌then◌else◌}
use Rattle.am_timer.specs.Tied.{has_timer}
use Rattle.am_timer.specs.Timer.{Timer}
use Rattle.am_transfer.specs.Timers.{is_for}
use Rattle.am_transfer.proofs.refresh.cancel_all.Given as goal

abbrev pub invariant-loop-instance : goal.invariant-loop-instance
invariant-loop-instance l =
    (x : Timer) → has_timer l.timers.timers x ≡ (if is_for l.tenant (take l.instance-index l.instances) x then false else has_timer l.fn.timers.timers x)
