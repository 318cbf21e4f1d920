use Rattle.am_timer.specs.Queue.{is_due}
use Rattle.am_timer.proofs.Tenants.{timers_of-filter}
use Rattle.am_timer.proofs.TiedLemmas.{rising-filter}
use Rattle.am_timer.proofs.queue.TimerQueue.due.Goals as goal

pub returns-clause-order : goal.returns-clause-order
returns-clause-order c = rw c.in_ok-due.ensures.due (rising-filter (is_due c.args.now) c.self.inside.by_due.keys c.self.invariant.rising)

pub returns-clause-each : goal.returns-clause-each
returns-clause-each c = λ t. rw (c.in_ok-due.ensures.due, ← c.self.view_is) (timers_of-filter t (is_due c.args.now) c.self.inside.by_due.keys)
