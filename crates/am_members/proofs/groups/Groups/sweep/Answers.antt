use Rattle.am_members.proofs.Sweeping.{sweeping_next}
use Rattle.am_members.proofs.groups.Groups.sweep.Goals as goal

pub loop-tenant-preserved : goal.loop-tenant-preserved
loop-tenant-preserved c =
    let h = c.loop-tenant.self-inside in
    sweeping_next c.args.self.now h.tenants.entries c.sweep_of.new.tenants.entries h.unswept c.pop_first.new.self c.loop-tenant.invariant
    c.in-Some.tenant c.in-Some.ensures.updates c.sweep_of.ensures.flushes c.sweep_of.ensures.alerts
