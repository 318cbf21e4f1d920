use Rattle.std.proofs.Common.{◌∷◌, []}
use Rattle.am_transfer.specs.Progress.{on}
use Rattle.am_transfer.specs.Tenants.{progress_of}
use Rattle.am_transfer.specs.Progress.{after_got}
use Rattle.am_transfer.proofs.Stays.{got_stays}
use Rattle.am_transfer.proofs.Timed.{timed_after}
use Rattle.am_transfer.proofs.settling.Settling.got.Goals as goal

pub returns-clause-timed : goal.returns-clause-timed
returns-clause-timed c =
    rw (← c.self.view_is)
    (timed_after c.args.tenant.now (c.args.from.instance ∷ []) c.self.inside.tenants c.got-counts.new.self c.self.inside.timers.timers c.refresh.new.timers.timers (on (after_got c.args.from c.args.present c.args.place))
    c.got-counts.ensures.each (got_stays c.args.from c.args.present c.args.place (progress_of c.args.tenant.now c.self.inside.tenants)) c.in_ok-refresh.ensures)
