use Rattle.std.proofs.Common.{◌≡◌, IfSome, sym, ap, ◌∙◌, refl, subst}
use Rattle.std.specs.Option.{IfNone}
use Rattle.am_outlet.specs.Attempts.{Desk, number_with, without, without_key, without_number}
use Rattle.am_outlet.proofs.Seen.{each_none, each_written, no_desk, others_stay, own_desk}
use Rattle.am_outlet.proofs.attempts.Attempts.drop_key.Goals as goal

pub returns-in_default-clause-number : goal.returns-in_default-clause-number
returns-in_default-clause-number c = rw (← c.self.view_is) (sym (ap (λ (d : Desk). number_with c.args.key.now d.open_ones) (no_desk c.self.inside.desks c.args.tenant.now c.self.invariant c.in_default.ensures.value)))

pub returns-in_default-clause-each : goal.returns-in_default-clause-each
returns-in_default-clause-each c =
    rw (c.get_mut.follows.holds-at-none, ← c.self.view_is) (each_none c.self.inside.desks c.args.tenant.now (without c.args.key.now) c.self.invariant c.in_default.ensures.value refl)

pub returns-clause-number : goal.returns-clause-number
returns-clause-number c =
    rw (← c.self.view_is) (c.drop_key.ensures.number ∙ sym (ap (λ (d : Desk). number_with c.args.key.now d.open_ones) (own_desk c.self.inside.desks c.args.tenant.now c.in-Some.desk.now c.self.invariant c.in-Some.ensures.value)))

pub returns-clause-each : goal.returns-clause-each
returns-clause-each c =
    let now = c.drop_key.new.self in
    rw (← c.self.view_is) (each_written c.self.inside.desks (c.get_mut.follows.lender now) c.args.tenant.now (without c.args.key.now) c.self.invariant c.in-Some.desk.now now
    c.in-Some.ensures.value (c.get_mut.follows.holds now) c.drop_key.ensures.desk)

pub returns-clause-others : goal.returns-clause-others
returns-clause-others c = others_stay c.args.tenant.now _ _ (without c.args.key.now) (returns-clause-each c)

pub returns-clause-one : goal.returns-clause-one
returns-clause-one c =
    rw (← c.self.view_is)
    (subst (λ (d : Desk). IfSome c.drop_key.result (λ number. without_key c.args.key.now d.open_ones ≡ without_number number d.open_ones))
    (sym (own_desk c.self.inside.desks c.args.tenant.now c.in-Some.desk.now c.self.invariant c.in-Some.ensures.value)) c.drop_key.ensures.one)

pub returns-in_default-clause-none : goal.returns-in_default-clause-none
returns-in_default-clause-none c =
    rw (← c.self.view_is)
    (subst (λ (d : Desk). without_key c.args.key.now d.open_ones ≡ d.open_ones) (sym (no_desk c.self.inside.desks c.args.tenant.now c.self.invariant c.in_default.ensures.value)) refl)

pub returns-clause-none : goal.returns-clause-none
returns-clause-none c =
    rw (← c.self.view_is)
    (subst (λ (d : Desk). IfNone c.drop_key.result (without_key c.args.key.now d.open_ones ≡ d.open_ones))
    (sym (own_desk c.self.inside.desks c.args.tenant.now c.in-Some.desk.now c.self.invariant c.in-Some.ensures.value)) c.drop_key.ensures.none)
