use Rattle.am_cluster.proofs.UpExist.{up_exist_first}
use Rattle.am_cluster.proofs.Watched.{others_refused, ring_ordered_watched, up_exist_watched}
use Rattle.am_cluster.proofs.laws.only_instances_are_up.Goals as goal

pub returns-clause-opened : goal.returns-clause-opened
returns-clause-opened c = up_exist_first

pub returns-clause-stay : goal.returns-clause-stay
returns-clause-stay c = up_exist_watched

pub returns-clause-ordered : goal.returns-clause-ordered
returns-clause-ordered c = ring_ordered_watched

pub returns-clause-others : goal.returns-clause-others
returns-clause-others c = others_refused
