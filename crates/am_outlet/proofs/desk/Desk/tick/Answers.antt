use Rattle.std.proofs.Common.{◌≡◌, ◌≤◌, ℕ, true, Option, Some, None, sym, ◌∙◌, arith, refl}
use Rattle.std.specs.Option.{is_some}
use Rattle.am_outlet.specs.Attempts.{is_due}
use Rattle.am_outlet.proofs.desk.Desk.tick.Goals as goal

-- what is due waits
waits : (now : ℕ) (again : Option ℕ) → is_due now again ≡ true → is_some again ≡ true
waits now None h = h
waits now (Some due) h = refl

pub overflow_add-tries : goal.overflow_add-tries
overflow_add-tries c =
    let few : c.in-Some.attempt.now.tries ≤ 4 = (c.self.invariant.tries c.args.number c.in-Some.attempt.now (sym c.in-Some.ensures.value)).1 (waits c.args.now c.in-Some.attempt.now.again (sym c.is_due.ensures ∙ c.if-not-is_due.false)) in
    omega arith

pub change-requires : goal.change-requires
change-requires c =
    let few : c.in-Some.attempt.now.tries ≤ 4 = (c.self.invariant.tries c.args.number c.in-Some.attempt.now (sym c.in-Some.ensures.value)).1 (waits c.args.now c.in-Some.attempt.now.again (sym c.is_due.ensures ∙ c.if-not-is_due.false)) in
    (omega arith, λ h. absurd (cc))
