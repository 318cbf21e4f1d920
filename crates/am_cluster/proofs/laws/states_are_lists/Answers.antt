use Rattle.am_cluster.proofs.OneList.{states_are_lists}
use Rattle.am_cluster.proofs.laws.states_are_lists.Goals as goal

pub returns : goal.returns
returns c = states_are_lists
