use Rattle.am_timer.specs.Queue.{with_timer}
use Rattle.am_timer.proofs.Tenants.{each_with, others_stay, others_stay_either}
use Rattle.am_timer.proofs.queue.TimerQueue.set.Goals as goal

pub returns-in_err-set_in-clause-others : goal.returns-in_err-set_in-clause-others
returns-in_err-set_in-clause-others c = rw (← c.self.view_is) (others_stay_either c.args.timer.name c.self.inside.by_due.keys c.set_in.new.by_due.keys c.in_err-set_in.ensures.err)

pub returns-clause-each : goal.returns-clause-each
returns-clause-each c = rw (c.in_ok-set_in.ensures.set, ← c.self.view_is) (each_with c.args.timer c.self.inside.by_due.keys c.self.invariant.rising)

pub returns-clause-others : goal.returns-clause-others
returns-clause-others c = others_stay c.args.timer.name.tenant (with_timer c.args.timer) _ _ (returns-clause-each c)
