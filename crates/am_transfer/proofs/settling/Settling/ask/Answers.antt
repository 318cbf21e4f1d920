use Rattle.am_transfer.specs.Tenants.{progress_of}
use Rattle.am_transfer.specs.Progress.{first_asked}
use Rattle.am_transfer.proofs.Stays.{ask_stays}
use Rattle.am_transfer.proofs.Timed.{timed_after}
use Rattle.am_transfer.proofs.settling.Settling.ask.Goals as goal

pub returns-clause-timed : goal.returns-clause-timed
returns-clause-timed c =
    rw (← c.self.view_is)
    (timed_after c.args.tenant.now (c.args.others.now) c.self.inside.tenants c.ask.new.self c.self.inside.timers.timers c.refresh_all.new.timers.timers (first_asked c.args.moment c.args.others.now)
    c.in_ok-receivers.ensures.each (ask_stays c.args.moment c.args.others.now (progress_of c.args.tenant.now c.self.inside.tenants)) c.in_ok-refresh_all.ensures)
