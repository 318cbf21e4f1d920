use Rattle.std.proofs.Common.{◌∷◌, []}
use Rattle.am_transfer.specs.Progress.{on}
use Rattle.am_transfer.specs.Tenants.{progress_of}
use Rattle.am_transfer.specs.Settling.{pushed}
use Rattle.am_transfer.proofs.Stays.{push_stays}
use Rattle.am_transfer.proofs.Timed.{timed_after}
use Rattle.am_transfer.proofs.settling.Settling.push.Goals as goal

pub returns-clause-timed : goal.returns-clause-timed
returns-clause-timed c =
    rw (← c.self.view_is)
    (timed_after c.args.tenant.now (c.args.receiver.instance ∷ []) c.self.inside.tenants c.push.new.self c.self.inside.timers.timers c.refresh.new.timers.timers (on (pushed c.args.receiver c.args.moment c.args.held.now))
    c.in_ok-pieces.ensures.each (push_stays c.args.receiver c.args.moment c.args.held.now (progress_of c.args.tenant.now c.self.inside.tenants)) c.in_ok-refresh.ensures)
