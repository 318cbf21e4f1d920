use Rattle.std.proofs.Common.{◌≡◌, take, if◌then◌else◌}
use Rattle.am_timer.specs.Tied.{has_timer}
use Rattle.am_timer.specs.Timer.{Timer}
use Rattle.am_transfer.specs.Timers.{is_for, is_told}
use Rattle.am_transfer.proofs.refresh.refresh_all.Given as goal

abbrev pub invariant-loop-instance : goal.invariant-loop-instance
invariant-loop-instance l =
    (x : Timer) → has_timer l.timers.timers x ≡ (if is_for l.tenant (take l.instance-index l.instances) x then is_told x l.tenants else has_timer l.fn.timers.timers x)
