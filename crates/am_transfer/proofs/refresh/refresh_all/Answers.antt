use Rattle.am_timer.specs.Tied.{has_timer}
use Rattle.am_transfer.specs.Timers.{is_told}
use Rattle.am_transfer.proofs.Timed.{next_for}
use Rattle.am_transfer.proofs.refresh.refresh_all.Goals as goal

pub loop-instance-preserved : goal.loop-instance-preserved
loop-instance-preserved c x =
    let i = c.loop-instance.instance-index in
    next_for c.args.tenant.now c.args.instances.now i c.instance-item.result c.instance-item.result x (is_told x c.args.tenants.now) (has_timer c.args.timers.now.timers x)
    (has_timer c.loop-instance.timers.timers x) (has_timer c.refresh.new.timers.timers x) c.loop-instance-test.true c.instance-item.is (c.loop-instance.invariant x) (c.in_ok-refresh.ensures x)
