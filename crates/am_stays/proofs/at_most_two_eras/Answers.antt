use Rattle.am_stays.proofs.Views.{adjacent, ended}
use Rattle.am_stays.proofs.at_most_two_eras.Goals as goal

pub returns-clause-adjacent : goal.returns-clause-adjacent
returns-clause-adjacent c = adjacent

pub returns-clause-ended : goal.returns-clause-ended
returns-clause-ended c = ended
