use Rattle.std.proofs.Common.{cond, ap, ◌∙◌}
use Rattle.am_tenant.specs.Names.{same}
use Rattle.am_outlet.specs.Attempts.{after_tick}
use Rattle.am_agenda.specs.Plan.{retry_due, with_desk}
use Rattle.am_agenda.specs.Planned.{plan_of}
use Rattle.am_agenda.proofs.Attempting.{desk_changed, kept_retried}
use Rattle.am_agenda.proofs.Keeping.{at_error, same_plan}
use Rattle.am_agenda.proofs.Retries.{kept_still}
use Rattle.am_agenda.proofs.agenda.Agenda.retry.Goals as goal

pub invariant_of-self : goal.invariant_of-self
invariant_of-self c =
    rw c.in_err-sending.ensures.err_timers
    (kept_still c.self.inside.paces c.self.inside.groups c.self.inside.attempts c.try_again.new.attempts c.self.inside.timers.timers c.self.invariant (λ s n. ap (λ d. retry_due d n) (c.in_err-sending.ensures.err s)))

pub invariant_of-self-2 : goal.invariant_of-self-2
invariant_of-self-2 c =
    kept_retried c.self.inside.paces c.self.inside.groups c.self.inside.attempts c.try_again.new.attempts c.args.tenant.now c.args.number c.args.now c.in_ok-sending.sending
    c.self.inside.timers.timers c.try_again.new.timers.timers c.self.invariant c.in_ok-sending.ensures.each c.in_ok-sending.ensures.sending c.in_ok-sending.ensures.timers

pub returns-clause-sending : goal.returns-clause-sending
unfolding plan_of
returns-clause-sending c = rw (← c.self.view_is) c.in_ok-sending.ensures.sending

pub returns-clause-each : goal.returns-clause-each
returns-clause-each c = λ t.
    desk_changed c.self.inside.paces c.self.inside.groups c.self.inside.attempts c.try_again.new.attempts c.args.tenant.now (after_tick c.args.number c.args.now) c.in_ok-sending.ensures.each t
    ∙ ap (λ p. cond (same t c.args.tenant.now) (with_desk (after_tick c.args.number c.args.now (plan_of t p).desk) (plan_of t p)) (plan_of t p)) c.self.view_is

pub returns-in_err-sending-clause-err : goal.returns-in_err-sending-clause-err
returns-in_err-sending-clause-err c =
    at_error c.from_residual.result
    (λ t. same_plan c.self.inside.paces c.self.inside.groups c.self.inside.attempts c.try_again.new.attempts t (c.in_err-sending.ensures.err t) ∙ ap (plan_of t) c.self.view_is)
