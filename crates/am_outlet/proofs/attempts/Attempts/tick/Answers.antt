use Rattle.std.proofs.Common.{sym, ap, ◌∙◌, refl}
use Rattle.am_outlet.specs.Attempts.{Desk, after_tick, next_of}
use Rattle.am_outlet.proofs.Seen.{at_error, each_none, each_same, each_written, no_desk, others_same, others_stay, own_desk}
use Rattle.am_outlet.proofs.attempts.Attempts.tick.Goals as goal

pub returns-in_default-clause-sending : goal.returns-in_default-clause-sending
returns-in_default-clause-sending c = rw (← c.self.view_is) (sym (ap (λ (d : Desk). next_of c.args.number c.args.now d) (no_desk c.self.inside.desks c.args.tenant.now c.self.invariant c.in_default.ensures.value)))

pub returns-in_default-clause-each : goal.returns-in_default-clause-each
returns-in_default-clause-each c =
    rw (c.get_mut.follows.holds-at-none, ← c.self.view_is) (each_none c.self.inside.desks c.args.tenant.now (after_tick c.args.number c.args.now) c.self.invariant c.in_default.ensures.value refl)

pub returns-clause-sending : goal.returns-clause-sending
returns-clause-sending c =
    rw (← c.self.view_is) (c.in_ok-sending.ensures.sending ∙ sym (ap (λ (d : Desk). next_of c.args.number c.args.now d) (own_desk c.self.inside.desks c.args.tenant.now c.in-Some.desk.now c.self.invariant c.in-Some.ensures.value)))

pub returns-clause-each : goal.returns-clause-each
returns-clause-each c =
    let now = c.tick.new.self in
    rw (← c.self.view_is) (each_written c.self.inside.desks (c.get_mut.follows.lender now) c.args.tenant.now (after_tick c.args.number c.args.now) c.self.invariant c.in-Some.desk.now now
    c.in-Some.ensures.value (c.get_mut.follows.holds now) c.in_ok-sending.ensures.desk)

pub returns-clause-others : goal.returns-clause-others
returns-clause-others c = others_stay c.args.tenant.now _ _ (after_tick c.args.number c.args.now) (returns-clause-each c)

pub returns-in_err-sending-clause-err : goal.returns-in_err-sending-clause-err
returns-in_err-sending-clause-err c =
    let now = c.tick.new.self in
    rw (← c.self.view_is) (at_error c.from_residual.result (each_same c.self.inside.desks (c.get_mut.follows.lender now) c.args.tenant.now c.self.invariant c.in-Some.desk.now now
    c.in-Some.ensures.value (c.get_mut.follows.holds now) c.in_err-sending.ensures.err))

pub returns-in_err-sending-clause-others : goal.returns-in_err-sending-clause-others
returns-in_err-sending-clause-others c =
    let now = c.tick.new.self in
    rw (← c.self.view_is) (others_same c.args.tenant.now _ _ (each_same c.self.inside.desks (c.get_mut.follows.lender now) c.args.tenant.now c.self.invariant c.in-Some.desk.now now
    c.in-Some.ensures.value (c.get_mut.follows.holds now) c.in_err-sending.ensures.err))
