use Rattle.am_item.proofs.BestLaws.{best-append, best-best, merged_assoc}
use Rattle.am_item.proofs.Joining.{all_joined-merged, merged-push, merged_comm, merged_twice}
use Rattle.am_item.proofs.laws.joining_lists.Goals as goal

pub returns-clause-both : goal.returns-clause-both
returns-clause-both c = best-append

pub returns-clause-one_by_one : goal.returns-clause-one_by_one
returns-clause-one_by_one c = merged-push

pub returns-clause-commutes : goal.returns-clause-commutes
returns-clause-commutes c = merged_comm

pub returns-clause-associates : goal.returns-clause-associates
returns-clause-associates c = merged_assoc

pub returns-clause-again : goal.returns-clause-again
returns-clause-again c = merged_twice

pub returns-clause-best_again : goal.returns-clause-best_again
returns-clause-best_again c = best-best

pub returns-clause-one_after_the_other : goal.returns-clause-one_after_the_other
returns-clause-one_after_the_other c = all_joined-merged
