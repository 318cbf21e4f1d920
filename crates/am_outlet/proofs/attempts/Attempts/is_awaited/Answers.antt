use Rattle.std.proofs.Common.{sym, ap, ◌∙◌}
use Rattle.am_outlet.specs.Attempts.{Desk, attempt_at, awaits_outcome}
use Rattle.am_outlet.proofs.Seen.{no_desk, own_desk}
use Rattle.am_outlet.proofs.attempts.Attempts.is_awaited.Goals as goal

pub returns-in-None : goal.returns-in-None
returns-in-None c =
    rw (← c.self.view_is) (sym (ap (λ (d : Desk). awaits_outcome c.args.tries (attempt_at c.args.number d.open_ones)) (no_desk c.self.inside.desks c.args.tenant.now c.self.invariant c.in-None.ensures.value)))

pub returns-in-Some : goal.returns-in-Some
returns-in-Some c =
    rw (← c.self.view_is) (c.is_awaited.ensures ∙ sym (ap (λ (d : Desk). awaits_outcome c.args.tries (attempt_at c.args.number d.open_ones)) (own_desk c.self.inside.desks c.args.tenant.now c.in-Some.desk.now c.self.invariant c.in-Some.ensures.value)))
