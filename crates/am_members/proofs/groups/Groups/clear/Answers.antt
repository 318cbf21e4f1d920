use Rattle.am_members.proofs.Tenants.{grouped_gone, pair_dropped}
use Rattle.am_members.proofs.Sweeping.{gone_swept}
use Rattle.am_members.proofs.groups.Groups.clear.Goals as goal

pub returns-clause-grouped : goal.returns-clause-grouped
returns-clause-grouped c t = rw (← c.self.view_is) (grouped_gone c.self.inside.tenants c.remove.new.self c.args.tenant.now c.remove.ensures.updates t)

pub returns-clause-dropped : goal.returns-clause-dropped
returns-clause-dropped c t = rw (← c.self.view_is) (pair_dropped c.self.inside.tenants c.remove.new.self c.args.tenant.now c.remove.ensures.updates c.remove.ensures.entries t)

pub invariant_of-self : goal.invariant_of-self
invariant_of-self c =
    gone_swept c.self.inside.unswept c.self.inside.tenants.entries c.remove.new.self.entries c.args.tenant.now c.self.invariant (grouped_gone c.self.inside.tenants c.remove.new.self c.args.tenant.now c.remove.ensures.updates)
