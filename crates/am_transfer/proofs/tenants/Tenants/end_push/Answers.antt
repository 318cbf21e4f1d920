use Rattle.std.proofs.Common.{refl}
use Rattle.am_transfer.specs.Progress.{on}
use Rattle.am_transfer.specs.Settling.{without_push}
use Rattle.am_transfer.proofs.Table.{each_none, each_written, others_written}
use Rattle.am_transfer.proofs.tenants.Tenants.end_push.Goals as goal

pub returns-in_default-clause-each : goal.returns-in_default-clause-each
returns-in_default-clause-each c =
    rw (c.get_mut.follows.holds-at-none, ← c.self.view_is)
    (each_none c.self.inside.by_name c.args.tenant.now (on (without_push c.args.to)) c.in_default.ensures.value refl)

pub returns-clause-each : goal.returns-clause-each
returns-clause-each c =
    let now = c.end_push.new.self in
    rw (← c.self.view_is)
    (each_written c.self.inside.by_name (c.get_mut.follows.lender now) c.args.tenant.now (on (without_push c.args.to))
    c.in-Some.progress.now now c.in-Some.ensures.value (c.get_mut.follows.holds now) c.end_push.ensures)

pub returns-clause-others : goal.returns-clause-others
returns-clause-others c =
    let now = c.end_push.new.self in
    rw (← c.self.view_is)
    (others_written c.self.inside.by_name (c.get_mut.follows.lender now) c.args.tenant.now c.in-Some.progress.now now c.in-Some.ensures.value
    (c.get_mut.follows.holds now) c.self.invariant)
