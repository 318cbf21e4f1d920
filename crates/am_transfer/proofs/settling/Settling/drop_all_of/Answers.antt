use Rattle.am_transfer.specs.Tenants.{progress_of}
use Rattle.am_transfer.specs.Progress.{nothing_yet}
use Rattle.am_transfer.specs.Timers.{told_to}
use Rattle.am_transfer.proofs.Stays.{cancelled, dropped_none, drop_stays}
use Rattle.am_transfer.proofs.Timed.{timed_after}
use Rattle.am_transfer.proofs.settling.Settling.drop_all_of.Goals as goal

pub returns-clause-timed : goal.returns-clause-timed
returns-clause-timed c =
    rw (← c.self.view_is)
    (timed_after c.args.tenant.now (told_to (progress_of c.args.tenant.now c.self.inside.tenants)) c.self.inside.tenants c.drop_entry.new.self c.self.inside.timers.timers c.cancel.new.timers.timers (λ p. nothing_yet)
    c.drop_entry.ensures.each (drop_stays (progress_of c.args.tenant.now c.self.inside.tenants)) (cancelled c.args.tenant.now (told_to (progress_of c.args.tenant.now c.self.inside.tenants)) c.drop_entry.new.self c.self.inside.timers.timers c.cancel.new.timers.timers (dropped_none c.args.tenant.now c.self.inside.tenants c.drop_entry.new.self c.drop_entry.ensures.each) c.cancel.ensures))
