use Rattle.std.proofs.Common.{◌∙◌}
use Rattle.am_transfer.specs.Progress.{on}
use Rattle.am_transfer.specs.Tenants.{progress_of}
use Rattle.am_transfer.specs.Settling.{now_settled}
use Rattle.am_transfer.proofs.Stays.{for_same, settle_stays}
use Rattle.am_transfer.proofs.Timed.{timed_after}
use Rattle.am_transfer.proofs.settling.Settling.forced.Goals as goal

pub returns-clause-timed : goal.returns-clause-timed
returns-clause-timed c =
    rw (← c.self.view_is)
    (timed_after c.args.tenant.now ((progress_of c.args.tenant.now c.self.inside.tenants).asked) c.self.inside.tenants c.settle.new.self c.self.inside.timers.timers c.refresh_all.new.timers.timers (on now_settled)
    c.in_ok-settle.ensures.each (settle_stays (progress_of c.args.tenant.now c.self.inside.tenants)) (for_same c.args.tenant.now _ _ (c.deref.ensures.value ∙ c.in_ok-asked.ensures) _ _ _ c.in_ok-refresh_all.ensures))
