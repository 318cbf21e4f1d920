use Rattle.am_timer.specs.Queue.{without}
use Rattle.am_timer.proofs.Tenants.{each_without, others_stay}
use Rattle.am_timer.proofs.queue.TimerQueue.cancel.Goals as goal

pub returns-clause-each : goal.returns-clause-each
returns-clause-each c = rw (c.forget.ensures.kept, ← c.self.view_is) (each_without c.args.name.now c.self.inside.by_due.keys)

pub returns-clause-others : goal.returns-clause-others
returns-clause-others c = others_stay c.args.name.now.tenant (without c.args.name.now) _ _ (returns-clause-each c)
