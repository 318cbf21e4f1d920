use Rattle.am_item.proofs.Meaning.{best_is_best, best_is_only}
use Rattle.am_item.proofs.laws.best_of_a_list.Goals as goal

pub returns-clause-best : goal.returns-clause-best
returns-clause-best c = best_is_best

pub returns-clause-only : goal.returns-clause-only
returns-clause-only c = best_is_only
