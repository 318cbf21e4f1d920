use Rattle.std.proofs.Common.{◌≡◌, true, false, is_some, refl, sym, ap, ◌∙◌}
use Rattle.am_quorum.specs.Dockets.{Docket, expired_in}
use Rattle.am_quorum.specs.Operations.{late, operation_at}
use Rattle.am_quorum.proofs.Seen.{each_none, each_written, no_own, own_docket}
use Rattle.am_quorum.proofs.Deadlines.{of_none, of_some}
use Rattle.am_quorum.proofs.Timed.{is_ended, is_kept}
use Rattle.am_quorum.proofs.ops.Ops.expire.Goals as goal

pub returns-in_default-clause-operation : goal.returns-in_default-clause-operation
returns-in_default-clause-operation c =
    rw (← c.self.view_is) (sym (ap (λ (d : Docket). late c.args.now (operation_at c.args.number d.operations))
    (no_own c.self.inside.incarnation c.self.inside.dockets c.args.tenant.now c.in_default.ensures.value)))

pub returns-in_default-clause-each : goal.returns-in_default-clause-each
returns-in_default-clause-each c =
    rw (c.get_mut.follows.holds-at-none, ← c.self.view_is)
    (each_none c.self.inside.incarnation c.self.inside.dockets c.args.tenant.now (expired_in c.args.number c.args.now) c.in_default.ensures.value refl)

pub returns-then-is_some-clause-operation : goal.returns-then-is_some-clause-operation
returns-then-is_some-clause-operation c =
    rw (← c.self.view_is) (c.expire-expired.ensures.operation ∙ sym (ap (λ (d : Docket). late c.args.now (operation_at c.args.number d.operations))
    (own_docket c.self.inside.incarnation c.self.inside.dockets c.args.tenant.now c.in-Some.docket.now c.in-Some.ensures.value)))

pub returns-else-is_some-clause-operation : goal.returns-else-is_some-clause-operation
returns-else-is_some-clause-operation c =
    rw (← c.self.view_is) (c.expire-expired.ensures.operation ∙ sym (ap (λ (d : Docket). late c.args.now (operation_at c.args.number d.operations))
    (own_docket c.self.inside.incarnation c.self.inside.dockets c.args.tenant.now c.in-Some.docket.now c.in-Some.ensures.value)))

pub returns-then-is_some-clause-each : goal.returns-then-is_some-clause-each
returns-then-is_some-clause-each c =
    let now = c.expire-expired.new.self in
    rw (← c.self.view_is) (each_written c.self.inside.incarnation c.self.inside.dockets (c.get_mut.follows.lender now) c.args.tenant.now (expired_in c.args.number c.args.now)
    c.in-Some.docket.now now c.in-Some.ensures.value (c.get_mut.follows.holds now) c.expire-expired.ensures.docket)

pub returns-else-is_some-clause-each : goal.returns-else-is_some-clause-each
returns-else-is_some-clause-each c =
    let now = c.expire-expired.new.self in
    rw (← c.self.view_is) (each_written c.self.inside.incarnation c.self.inside.dockets (c.get_mut.follows.lender now) c.args.tenant.now (expired_in c.args.number c.args.now)
    c.in-Some.docket.now now c.in-Some.ensures.value (c.get_mut.follows.holds now) c.expire-expired.ensures.docket)

pub invariant_of-self-then-is_some : goal.invariant_of-self-then-is_some
invariant_of-self-then-is_some c =
    let now = c.expire-expired.new.self in
    let over : is_some c.expire-expired.result ≡ true = sym c.is_some.ensures ∙ c.if-is_some.true in
    is_ended c.self.inside.incarnation c.self.inside.dockets (c.get_mut.follows.lender now) c.args.tenant.now c.in-Some.docket.now now c.in-Some.ensures.value
    (c.get_mut.follows.holds now) c.self.inside.timers.timers c.cancel_deadline.new.timers.timers c.self.invariant c.args.number
    (of_some c.expire-expired.result over c.expire-expired.ensures.over) c.cancel_deadline.ensures

pub invariant_of-self-else-is_some : goal.invariant_of-self-else-is_some
invariant_of-self-else-is_some c =
    let now = c.expire-expired.new.self in
    let open_yet : is_some c.expire-expired.result ≡ false = sym c.is_some.ensures ∙ c.if-is_some.false in
    is_kept c.self.inside.incarnation c.self.inside.dockets (c.get_mut.follows.lender now) c.args.tenant.now c.in-Some.docket.now now c.in-Some.ensures.value
    (c.get_mut.follows.holds now) c.self.inside.timers.timers c.self.inside.timers.timers c.self.invariant refl (of_none c.expire-expired.result open_yet c.expire-expired.ensures.open)
