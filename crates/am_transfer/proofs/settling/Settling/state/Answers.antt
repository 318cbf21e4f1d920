use Rattle.std.proofs.Common.{◌∙◌}
use Rattle.am_transfer.specs.Progress.{on}
use Rattle.am_transfer.specs.Tenants.{progress_of}
use Rattle.am_transfer.specs.Settling.{taken}
use Rattle.am_transfer.proofs.Stays.{for_same, take_stays}
use Rattle.am_transfer.proofs.Timed.{timed_after}
use Rattle.am_transfer.proofs.settling.Settling.state.Goals as goal

pub returns-clause-timed : goal.returns-clause-timed
returns-clause-timed c =
    rw (← c.self.view_is)
    (timed_after c.args.tenant.now ((progress_of c.args.tenant.now c.self.inside.tenants).asked) c.self.inside.tenants c.take.new.self c.self.inside.timers.timers c.refresh_all.new.timers.timers (on (taken c.args.sender c.args.place c.args.span c.args.others.now))
    c.in_ok-behind.ensures.each (take_stays c.args.sender c.args.place c.args.span c.args.others.now (progress_of c.args.tenant.now c.self.inside.tenants)) (for_same c.args.tenant.now _ _ (c.deref.ensures.value ∙ c.in_ok-asked.ensures) _ _ _ c.in_ok-refresh_all.ensures))
