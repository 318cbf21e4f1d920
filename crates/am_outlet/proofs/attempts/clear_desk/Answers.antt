use Rattle.std.proofs.Common.{refl}
use Rattle.am_outlet.specs.Attempts.{cleared}
use Rattle.am_outlet.proofs.Seen.{each_none, each_written}
use Rattle.am_outlet.proofs.attempts.clear_desk.Goals as goal

pub returns-in-Some-clause-each : goal.returns-in-Some-clause-each
returns-in-Some-clause-each c =
    let now = c.clear.new.self in
    each_written c.args.desks.now (c.get_mut.follows.lender now) c.args.tenant.now cleared c.get_mut.ensures.ordered c.in-Some.desk.now now
    c.in-Some.ensures.value (c.get_mut.follows.holds now) c.clear.ensures

pub returns-in_default-clause-each : goal.returns-in_default-clause-each
returns-in_default-clause-each c =
    rw c.get_mut.follows.holds-at-none (each_none c.args.desks.now c.args.tenant.now cleared c.get_mut.ensures.ordered c.in_default.ensures.value refl)
