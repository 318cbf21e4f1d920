use Rattle.std.proofs.Common.{◌≡◌, false, cond, ap, sym, ◌∙◌}
use Rattle.std.specs.Result.{is_err}
use Rattle.am_tenant.specs.Names.{same}
use Rattle.am_outlet.specs.Attempts.{after_outcome}
use Rattle.am_agenda.specs.Plan.{with_desk}
use Rattle.am_agenda.specs.Planned.{plan_of}
use Rattle.am_agenda.proofs.Attempting.{always, desk_changed, kept_told_well}
use Rattle.am_agenda.proofs.Keeping.{all_lost, at_error, no_error, none_kept}
use Rattle.am_agenda.proofs.agenda.Agenda.outcome.Goals as goal

pub invariant_of-self : goal.invariant_of-self
invariant_of-self c = rw c.reset.ensures.timers (none_kept _ c.reset.ensures.groups c.reset.ensures.attempts)

pub invariant_of-self-else-is_err : goal.invariant_of-self-else-is_err
invariant_of-self-else-is_err c =
    let well : is_err c.take_outcome-outcome.result ≡ false = sym c.is_err.ensures.value ∙ c.if-is_err.false in
    kept_told_well c.self.inside.paces c.self.inside.groups c.self.inside.attempts c.take_outcome-outcome.new.attempts c.args.tenant.now c.args.number c.args.tries c.args.moment c.args.status c.take_outcome-outcome.result
    c.self.inside.timers.timers c.take_outcome-outcome.new.timers.timers well c.self.invariant c.take_outcome-outcome.ensures.each c.take_outcome-outcome.ensures.outcome c.take_outcome-outcome.ensures.timers

pub returns-else-is_err-clause-outcome : goal.returns-else-is_err-clause-outcome
unfolding plan_of
returns-else-is_err-clause-outcome c = rw (← c.self.view_is) c.take_outcome-outcome.ensures.outcome

pub returns-else-is_err-clause-each : goal.returns-else-is_err-clause-each
returns-else-is_err-clause-each c =
    let f = after_outcome c.args.number c.args.tries c.args.moment c.args.status in
    always c.take_outcome-outcome.result
    (λ t. desk_changed c.self.inside.paces c.self.inside.groups c.self.inside.attempts c.take_outcome-outcome.new.attempts c.args.tenant.now f c.take_outcome-outcome.ensures.each t
    ∙ ap (λ p. cond (same t c.args.tenant.now) (with_desk (f (plan_of t p).desk) (plan_of t p)) (plan_of t p)) c.self.view_is)

pub returns-then-is_err-clause-err : goal.returns-then-is_err-clause-err
returns-then-is_err-clause-err c = at_error c.take_outcome-outcome.result (λ t. all_lost t _ (c.reset.ensures.groups t) (c.reset.ensures.attempts t))

pub returns-else-is_err-clause-err : goal.returns-else-is_err-clause-err
returns-else-is_err-clause-err c = no_error _ c.take_outcome-outcome.result (sym c.is_err.ensures.value ∙ c.if-is_err.false)
