use Rattle.std.proofs.Common.{refl, sym, ap, ◌∙◌}
use Rattle.am_quorum.specs.Dockets.{Docket, closed_in}
use Rattle.am_quorum.specs.Operations.{operation_at}
use Rattle.am_quorum.proofs.Seen.{each_none, each_written, no_own, own_docket}
use Rattle.am_quorum.proofs.Timed.{is_ended}
use Rattle.am_quorum.proofs.ops.Ops.close.Goals as goal

pub returns-in_default-clause-operation : goal.returns-in_default-clause-operation
returns-in_default-clause-operation c =
    rw (← c.self.view_is) (sym (ap (λ (d : Docket). operation_at c.args.number d.operations)
    (no_own c.self.inside.incarnation c.self.inside.dockets c.args.tenant.now c.in_default.ensures.value)))

pub returns-in_default-clause-each : goal.returns-in_default-clause-each
returns-in_default-clause-each c =
    rw (c.get_mut.follows.holds-at-none, ← c.self.view_is)
    (each_none c.self.inside.incarnation c.self.inside.dockets c.args.tenant.now (closed_in c.args.number) c.in_default.ensures.value refl)

pub returns-clause-operation : goal.returns-clause-operation
returns-clause-operation c =
    rw (← c.self.view_is) (c.close.ensures.operation ∙ sym (ap (λ (d : Docket). operation_at c.args.number d.operations)
    (own_docket c.self.inside.incarnation c.self.inside.dockets c.args.tenant.now c.in-Some.docket.now c.in-Some.ensures.value)))

pub returns-clause-each : goal.returns-clause-each
returns-clause-each c =
    let now = c.close.new.self in
    rw (← c.self.view_is) (each_written c.self.inside.incarnation c.self.inside.dockets (c.get_mut.follows.lender now) c.args.tenant.now (closed_in c.args.number)
    c.in-Some.docket.now now c.in-Some.ensures.value (c.get_mut.follows.holds now) c.close.ensures.docket)

pub invariant_of-self-2 : goal.invariant_of-self-2
invariant_of-self-2 c =
    let now = c.close.new.self in
    is_ended c.self.inside.incarnation c.self.inside.dockets (c.get_mut.follows.lender now) c.args.tenant.now c.in-Some.docket.now now c.in-Some.ensures.value
    (c.get_mut.follows.holds now) c.self.inside.timers.timers c.cancel_deadline.new.timers.timers c.self.invariant c.args.number
    c.close.ensures.deadlines c.cancel_deadline.ensures
