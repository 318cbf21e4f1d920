use Rattle.std.proofs.Common.{◌≡◌, true, false, Option, is_some, refl, sym, ap, ◌∙◌, arith}
use Rattle.am_quorum.specs.declared.operation.Operation.{Operation}
use Rattle.am_quorum.specs.Dockets.{Docket, acknowledged_in, no_docket, with_operations}
use Rattle.am_quorum.specs.Operations.{acked_by, ready_by, target_in}
use Rattle.am_quorum.proofs.Seen.{each_none, each_written, no_own, nobody, own_docket, target_here}
use Rattle.am_quorum.proofs.Deadlines.{of_none, of_some}
use Rattle.am_quorum.proofs.Timed.{is_ended, is_kept}
use Rattle.am_quorum.proofs.ops.Ops.ack.Goals as goal

pub returns-in_default-clause-ready : goal.returns-in_default-clause-ready
returns-in_default-clause-ready c =
    let i = c.self.inside.incarnation in
    rw (← c.self.view_is) (sym (ap (λ (d : Docket). ready_by c.args.from (target_in i c.args.target d.operations))
    (no_own i c.self.inside.dockets c.args.tenant.now c.in_default.ensures.value) ∙ ap (ready_by c.args.from) (nobody i c.args.target)))

pub returns-in_default-clause-each : goal.returns-in_default-clause-each
returns-in_default-clause-each c =
    let i = c.self.inside.incarnation in
    rw (c.get_mut.follows.holds-at-none, ← c.self.view_is)
    (each_none i c.self.inside.dockets c.args.tenant.now (acknowledged_in i c.args.target c.args.from) c.in_default.ensures.value
    (ap (λ (o : Option Operation). with_operations (acked_by c.args.from o) no_docket) (nobody i c.args.target)))

pub returns-then-is_some-clause-ready : goal.returns-then-is_some-clause-ready
returns-then-is_some-clause-ready c =
    let i = c.self.inside.incarnation in
    let is : c.args.target.incarnation ≡ c.self.inside.incarnation = omega arith in
    rw (← c.self.view_is) (c.ack-ready.ensures.ready ∙ ap (ready_by c.args.from) (sym (target_here i c.args.target c.in-Some.docket.now.operations is))
    ∙ ap (λ (d : Docket). ready_by c.args.from (target_in i c.args.target d.operations))
    (sym (own_docket i c.self.inside.dockets c.args.tenant.now c.in-Some.docket.now c.in-Some.ensures.value)))

pub returns-else-is_some-clause-ready : goal.returns-else-is_some-clause-ready
returns-else-is_some-clause-ready c =
    let i = c.self.inside.incarnation in
    let is : c.args.target.incarnation ≡ c.self.inside.incarnation = omega arith in
    rw (← c.self.view_is) (c.ack-ready.ensures.ready ∙ ap (ready_by c.args.from) (sym (target_here i c.args.target c.in-Some.docket.now.operations is))
    ∙ ap (λ (d : Docket). ready_by c.args.from (target_in i c.args.target d.operations))
    (sym (own_docket i c.self.inside.dockets c.args.tenant.now c.in-Some.docket.now c.in-Some.ensures.value)))

pub returns-then-is_some-clause-each : goal.returns-then-is_some-clause-each
returns-then-is_some-clause-each c =
    let i = c.self.inside.incarnation in
    let now = c.ack-ready.new.self in
    let is : c.args.target.incarnation ≡ c.self.inside.incarnation = omega arith in
    rw (← c.self.view_is) (each_written i c.self.inside.dockets (c.get_mut.follows.lender now) c.args.tenant.now (acknowledged_in i c.args.target c.args.from)
    c.in-Some.docket.now now c.in-Some.ensures.value (c.get_mut.follows.holds now)
    (c.ack-ready.ensures.docket ∙ ap (λ (o : Option Operation). with_operations (acked_by c.args.from o) c.in-Some.docket.now)
    (sym (target_here i c.args.target c.in-Some.docket.now.operations is))))

pub returns-else-is_some-clause-each : goal.returns-else-is_some-clause-each
returns-else-is_some-clause-each c =
    let i = c.self.inside.incarnation in
    let now = c.ack-ready.new.self in
    let is : c.args.target.incarnation ≡ c.self.inside.incarnation = omega arith in
    rw (← c.self.view_is) (each_written i c.self.inside.dockets (c.get_mut.follows.lender now) c.args.tenant.now (acknowledged_in i c.args.target c.args.from)
    c.in-Some.docket.now now c.in-Some.ensures.value (c.get_mut.follows.holds now)
    (c.ack-ready.ensures.docket ∙ ap (λ (o : Option Operation). with_operations (acked_by c.args.from o) c.in-Some.docket.now)
    (sym (target_here i c.args.target c.in-Some.docket.now.operations is))))

pub invariant_of-self-then-is_some : goal.invariant_of-self-then-is_some
invariant_of-self-then-is_some c =
    let now = c.ack-ready.new.self in
    let over : is_some c.ack-ready.result ≡ true = sym c.is_some.ensures ∙ c.if-is_some.true in
    is_ended c.self.inside.incarnation c.self.inside.dockets (c.get_mut.follows.lender now) c.args.tenant.now c.in-Some.docket.now now c.in-Some.ensures.value
    (c.get_mut.follows.holds now) c.self.inside.timers.timers c.cancel_deadline.new.timers.timers c.self.invariant c.args.target.number
    (of_some c.ack-ready.result over c.ack-ready.ensures.over) c.cancel_deadline.ensures

pub invariant_of-self-else-is_some : goal.invariant_of-self-else-is_some
invariant_of-self-else-is_some c =
    let now = c.ack-ready.new.self in
    let open_yet : is_some c.ack-ready.result ≡ false = sym c.is_some.ensures ∙ c.if-is_some.false in
    is_kept c.self.inside.incarnation c.self.inside.dockets (c.get_mut.follows.lender now) c.args.tenant.now c.in-Some.docket.now now c.in-Some.ensures.value
    (c.get_mut.follows.holds now) c.self.inside.timers.timers c.self.inside.timers.timers c.self.invariant refl (of_none c.ack-ready.result open_yet c.ack-ready.ensures.open)
