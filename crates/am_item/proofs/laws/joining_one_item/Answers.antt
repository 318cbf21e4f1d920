use Rattle.am_item.proofs.BestLaws.{best-push}
use Rattle.am_item.proofs.Joining.{joined_again, joined_comm, joined_stays}
use Rattle.am_item.proofs.laws.joining_one_item.Goals as goal

pub returns-clause-one_more : goal.returns-clause-one_more
returns-clause-one_more c = best-push

pub returns-clause-again : goal.returns-clause-again
returns-clause-again c = joined_again

pub returns-clause-either_order : goal.returns-clause-either_order
returns-clause-either_order c = joined_comm

pub returns-clause-held_stays : goal.returns-clause-held_stays
returns-clause-held_stays c = joined_stays
