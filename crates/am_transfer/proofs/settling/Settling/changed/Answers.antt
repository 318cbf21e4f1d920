use Rattle.am_transfer.specs.Progress.{on}
use Rattle.am_transfer.specs.Tenants.{progress_of}
use Rattle.am_transfer.specs.Settling.{in_new_epoch}
use Rattle.am_transfer.specs.Timers.{told_to}
use Rattle.am_transfer.proofs.Stays.{cancelled, change_stays, changed_none}
use Rattle.am_transfer.proofs.Timed.{timed_after}
use Rattle.am_transfer.proofs.settling.Settling.changed.Goals as goal

pub returns-clause-timed : goal.returns-clause-timed
returns-clause-timed c =
    rw (← c.self.view_is)
    (timed_after c.args.tenant.now (told_to (progress_of c.args.tenant.now c.self.inside.tenants)) c.self.inside.tenants c.change.new.self c.self.inside.timers.timers c.cancel.new.timers.timers (on in_new_epoch)
    c.in_ok-receivers.ensures.each (change_stays (progress_of c.args.tenant.now c.self.inside.tenants)) (cancelled c.args.tenant.now (told_to (progress_of c.args.tenant.now c.self.inside.tenants)) c.change.new.self c.self.inside.timers.timers c.cancel.new.timers.timers (changed_none c.args.tenant.now c.self.inside.tenants c.change.new.self c.in_ok-receivers.ensures.each) c.cancel.ensures))
