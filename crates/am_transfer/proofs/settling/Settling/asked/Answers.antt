use Rattle.std.proofs.Common.{[]}
use Rattle.am_transfer.specs.Progress.{on}
use Rattle.am_transfer.specs.Tenants.{progress_of}
use Rattle.am_transfer.specs.Settling.{answered}
use Rattle.am_transfer.proofs.Stays.{answer_stays, none_for}
use Rattle.am_transfer.proofs.Timed.{timed_after}
use Rattle.am_transfer.proofs.settling.Settling.asked.Goals as goal

pub returns-clause-timed : goal.returns-clause-timed
returns-clause-timed c =
    rw (← c.self.view_is)
    (timed_after c.args.tenant.now ([]) c.self.inside.tenants c.answer.new.self c.self.inside.timers.timers c.self.inside.timers.timers (on (answered c.args.asker c.args.held.now))
    c.in_ok-pieces.ensures.each (answer_stays c.args.asker c.args.held.now (progress_of c.args.tenant.now c.self.inside.tenants)) (none_for c.args.tenant.now c.answer.new.self c.self.inside.timers.timers))
