use Rattle.am_cluster.proofs.Newest.{in_order_after, in_order_first, one_replica}
use Rattle.am_cluster.proofs.laws.one_replica_changes.Goals as goal

pub returns-clause-opened : goal.returns-clause-opened
returns-clause-opened c = in_order_first

pub returns-clause-one : goal.returns-clause-one
returns-clause-one c = one_replica

pub returns-clause-ordered : goal.returns-clause-ordered
returns-clause-ordered c = in_order_after
