use Rattle.std.proofs.Common.{◌∷◌, []}
use Rattle.am_transfer.specs.Progress.{on}
use Rattle.am_transfer.specs.Tenants.{progress_of}
use Rattle.am_transfer.specs.Settling.{without_push}
use Rattle.am_transfer.proofs.Stays.{end_stays}
use Rattle.am_transfer.proofs.Timed.{timed_after}
use Rattle.am_transfer.proofs.settling.Settling.end_push.Goals as goal

pub returns-clause-timed : goal.returns-clause-timed
returns-clause-timed c =
    rw (← c.self.view_is)
    (timed_after c.args.tenant.now (c.args.to ∷ []) c.self.inside.tenants c.end_push.new.self c.self.inside.timers.timers c.refresh.new.timers.timers (on (without_push c.args.to))
    c.end_push.ensures.each (end_stays c.args.to (progress_of c.args.tenant.now c.self.inside.tenants)) c.in_ok-refresh.ensures)
