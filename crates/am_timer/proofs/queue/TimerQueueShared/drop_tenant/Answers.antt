use Rattle.am_timer.proofs.Dropping.{dropped}
use Rattle.am_timer.proofs.queue.TimerQueueShared.drop_tenant.Goals as goal

pub returns-clause-dropped : goal.returns-clause-dropped
returns-clause-dropped c = λ was stands t. rw (c.leave.ensures.kept, ← c.self.view_is) (dropped c.args.tenant.now c.self.inside.by_due.keys t)
