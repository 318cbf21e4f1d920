use Rattle.am_transfer.proofs.Stays.{none_told}
use Rattle.am_transfer.proofs.settling.Settling.new.Goals as goal

pub returns-clause-timed : goal.returns-clause-timed
returns-clause-timed c = none_told c.new.result c.new-2.result.timers c.new.ensures.each c.new-2.ensures.timers
