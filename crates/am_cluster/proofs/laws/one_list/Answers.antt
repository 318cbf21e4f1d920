use Rattle.am_cluster.proofs.Cuts.{pieces_are_list}
use Rattle.am_cluster.proofs.laws.one_list.Goals as goal

pub returns : goal.returns
returns c = pieces_are_list
