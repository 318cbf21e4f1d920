use Rattle.am_timer.proofs.Orders.{timers_exact, timers_total}
use Rattle.am_timer.proofs.laws.order.Goals as goal

pub returns-clause-total : goal.returns-clause-total
returns-clause-total c = timers_total

pub returns-clause-one_timer : goal.returns-clause-one_timer
returns-clause-one_timer c = timers_exact
