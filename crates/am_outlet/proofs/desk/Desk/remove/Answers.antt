use Rattle.std.proofs.Common.{sym, ◌∙◌}
use Rattle.am_outlet.proofs.Kept.{kept_gone}
use Rattle.am_outlet.proofs.Lists.{removed}
use Rattle.am_outlet.proofs.desk.Desk.remove.Goals as goal

pub returns-in_err-attempt-clause-attempts : goal.returns-in_err-attempt-clause-attempts
returns-in_err-attempt-clause-attempts c = rw (← c.self.view_is) (c.remove.ensures.entries ∙ removed c.args.number c.self.inside.attempts.entries c.self.invariant.rising)

pub invariant_of-self-2 : goal.invariant_of-self-2
invariant_of-self-2 c =
    kept_gone c.self.inside.used c.self.inside.attempts.entries c.remove.new.self.entries c.self.inside.numbers.entries c.remove-2.new.self.entries c.self.invariant c.remove.ensures.ordered
    c.args.number c.in_ok-attempt.attempt (sym c.in_ok-attempt.ensures.value) c.in_ok-attempt.ensures.updates.0 c.remove-2.ensures.updates.0

pub returns-clause-attempts : goal.returns-clause-attempts
returns-clause-attempts c = rw (← c.self.view_is) (c.remove.ensures.entries ∙ removed c.args.number c.self.inside.attempts.entries c.self.invariant.rising)
