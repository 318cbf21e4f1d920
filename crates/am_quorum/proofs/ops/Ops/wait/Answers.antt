use Rattle.std.proofs.Common.{refl}
use Rattle.am_quorum.specs.Dockets.{waiting_in}
use Rattle.am_quorum.proofs.Seen.{each_none, each_written}
use Rattle.am_quorum.proofs.Timed.{is_kept}
use Rattle.am_quorum.proofs.ops.Ops.wait.Goals as goal

pub returns-in_default-clause-each : goal.returns-in_default-clause-each
returns-in_default-clause-each c =
    rw (c.get_mut.follows.holds-at-none, ← c.self.view_is)
    (each_none c.self.inside.incarnation c.self.inside.dockets c.args.tenant.now (waiting_in c.args.reply c.args.number) c.in_default.ensures.value refl)

pub returns-clause-each : goal.returns-clause-each
returns-clause-each c =
    let now = c.wait.new.self in
    rw (← c.self.view_is) (each_written c.self.inside.incarnation c.self.inside.dockets (c.get_mut.follows.lender now) c.args.tenant.now (waiting_in c.args.reply c.args.number)
    c.in-Some.docket.now now c.in-Some.ensures.value (c.get_mut.follows.holds now) c.wait.ensures.docket)

pub invariant_of-self-2 : goal.invariant_of-self-2
invariant_of-self-2 c =
    let now = c.wait.new.self in
    is_kept c.self.inside.incarnation c.self.inside.dockets (c.get_mut.follows.lender now) c.args.tenant.now c.in-Some.docket.now now c.in-Some.ensures.value
    (c.get_mut.follows.holds now) c.self.inside.timers.timers c.self.inside.timers.timers c.self.invariant refl c.wait.ensures.deadlines
