use Rattle.am_transfer.proofs.Table.{dropped, each_dropped}
use Rattle.am_transfer.proofs.tenants.Tenants.drop_entry.Goals as goal

pub returns-clause-each : goal.returns-clause-each
returns-clause-each c =
    rw (← c.self.view_is) (each_dropped c.self.inside.by_name c.remove.new.self c.args.tenant.now c.remove.ensures.updates.0)

pub returns-clause-dropped : goal.returns-clause-dropped
returns-clause-dropped c =
    rw (← c.self.view_is) (dropped c.self.inside.by_name c.remove.new.self c.args.tenant.now c.self.invariant c.remove.ensures.ordered c.remove.ensures.updates.0)
