use Rattle.am_instance.specs.Here.{circumstances}
use Rattle.am_instance.proofs.Standings.{unsettled_by}
use Rattle.am_instance.proofs.instance.Instance.is_unsettled_for.Goals as goal

pub returns-then-is_replica : goal.returns-then-is_replica
returns-then-is_replica c =
    unsettled_by (circumstances c.args.occasion.now) c.args.self.now c.args.tenant.now c.here-here.result c.is_replica.result c.is_settled.result
    c.here-here.ensures c.is_replica.ensures c.if-is_replica.true c.is_settled.ensures
