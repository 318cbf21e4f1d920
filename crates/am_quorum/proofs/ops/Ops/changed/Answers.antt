use Rattle.std.proofs.Common.{refl, sym, ap, ◌∙◌}
use Rattle.am_quorum.specs.Dockets.{Docket, emptied}
use Rattle.am_quorum.specs.Operations.{connections_of}
use Rattle.am_quorum.proofs.Seen.{at_error, each_none, each_same, each_written, no_own, own_docket}
use Rattle.am_quorum.proofs.Timed.{is_emptied, is_kept}
use Rattle.am_quorum.proofs.ops.Ops.changed.Goals as goal

pub returns-in_default-clause-connections : goal.returns-in_default-clause-connections
returns-in_default-clause-connections c =
    c.new.ensures.items ∙ rw (← c.self.view_is) (sym (ap (λ (d : Docket). connections_of d.operations)
    (no_own c.self.inside.incarnation c.self.inside.dockets c.args.tenant.now c.in_default.ensures.value)))

pub returns-in_default-clause-each : goal.returns-in_default-clause-each
returns-in_default-clause-each c =
    rw (c.get_mut.follows.holds-at-none, ← c.self.view_is)
    (each_none c.self.inside.incarnation c.self.inside.dockets c.args.tenant.now emptied c.in_default.ensures.value refl)

pub returns-clause-connections : goal.returns-clause-connections
returns-clause-connections c =
    rw (← c.self.view_is) (c.in_ok-connections.ensures ∙ ap (λ (d : Docket). connections_of d.operations)
    (sym (own_docket c.self.inside.incarnation c.self.inside.dockets c.args.tenant.now c.in-Some.docket.now c.in-Some.ensures.value)))

pub returns-clause-each : goal.returns-clause-each
returns-clause-each c =
    let now = c.clear.new.self in
    rw (← c.self.view_is) (each_written c.self.inside.incarnation c.self.inside.dockets (c.get_mut.follows.lender now) c.args.tenant.now emptied
    c.in-Some.docket.now now c.in-Some.ensures.value (c.get_mut.follows.holds now) c.clear.ensures)

pub returns-in_err-connections-clause-err : goal.returns-in_err-connections-clause-err
returns-in_err-connections-clause-err c =
    let was = c.in-Some.docket.now in
    rw (← c.self.view_is) (at_error c.from_residual.result (each_same c.self.inside.incarnation c.self.inside.dockets (c.get_mut.follows.lender was) c.args.tenant.now
    was was c.in-Some.ensures.value (c.get_mut.follows.holds was) refl))

pub invariant_of-self-in_err-connections : goal.invariant_of-self-in_err-connections
invariant_of-self-in_err-connections c =
    let was = c.in-Some.docket.now in
    is_kept c.self.inside.incarnation c.self.inside.dockets (c.get_mut.follows.lender was) c.args.tenant.now was was c.in-Some.ensures.value
    (c.get_mut.follows.holds was) c.self.inside.timers.timers c.self.inside.timers.timers c.self.invariant refl (λ n. refl)

pub invariant_of-self-2 : goal.invariant_of-self-2
invariant_of-self-2 c =
    let now = c.clear.new.self in
    is_emptied c.self.inside.incarnation c.self.inside.dockets (c.get_mut.follows.lender now) c.args.tenant.now c.in-Some.docket.now now c.in-Some.ensures.value
    (c.get_mut.follows.holds now) c.self.inside.timers.timers c.cancel_deadlines.new.timers.timers c.self.invariant (ap (λ (d : Docket). d.operations) c.clear.ensures)
    c.cancel_deadlines.ensures
