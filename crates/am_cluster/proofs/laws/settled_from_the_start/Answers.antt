use Rattle.am_cluster.proofs.Start.{no_more_timers, nobody_asks, replicas_settled}
use Rattle.am_cluster.proofs.Steady.{all_settled, opened_steady, stay_steady}
use Rattle.am_cluster.proofs.laws.settled_from_the_start.Goals as goal

pub returns-clause-opened : goal.returns-clause-opened
returns-clause-opened c = opened_steady

pub returns-clause-stay : goal.returns-clause-stay
returns-clause-stay c = stay_steady

pub returns-clause-all : goal.returns-clause-all
returns-clause-all c = all_settled

pub returns-clause-settled : goal.returns-clause-settled
returns-clause-settled c = replicas_settled

pub returns-clause-nobody_asks : goal.returns-clause-nobody_asks
returns-clause-nobody_asks c = nobody_asks

pub returns-clause-timers : goal.returns-clause-timers
returns-clause-timers c = no_more_timers
