use Rattle.std.proofs.Common.{◌≡◌, false, cond, ap, sym, ◌∙◌}
use Rattle.std.specs.Result.{is_err}
use Rattle.std.proofs.lemmas.Result.{on_ok_weaker}
use Rattle.am_tenant.specs.Names.{same}
use Rattle.am_outlet.specs.Attempts.{added}
use Rattle.am_agenda.specs.Plan.{with_desk}
use Rattle.am_agenda.specs.Planned.{plan_of}
use Rattle.am_agenda.proofs.Attempting.{desk_changed, kept_started, started_anew}
use Rattle.am_agenda.proofs.Keeping.{all_lost, at_error, no_error, none_kept}
use Rattle.am_agenda.proofs.Putting.{went_well}
use Rattle.am_agenda.proofs.agenda.Agenda.start.Goals as goal

pub invariant_of-self : goal.invariant_of-self
invariant_of-self c = rw c.reset.ensures.timers (none_kept _ c.reset.ensures.groups c.reset.ensures.attempts)

pub invariant_of-self-else-is_err : goal.invariant_of-self-else-is_err
unfolding plan_of
invariant_of-self-else-is_err c =
    let well : is_err c.start-started.result ≡ false = sym c.is_err.ensures.value ∙ c.if-is_err.false in
    kept_started c.self.inside.paces c.self.inside.groups c.self.inside.attempts c.start-started.new.self c.args.tenant.now c.args.notice c.self.inside.timers.timers c.self.invariant
    (started_anew c.self.inside.attempts c.start-started.new.self c.args.tenant.now c.args.notice (rw (← c.self.view_is) at c.requires) (went_well c.start-started.result well c.start-started.ensures.each))

pub returns-else-is_err-clause-sending : goal.returns-else-is_err-clause-sending
unfolding plan_of
returns-else-is_err-clause-sending c = rw (← c.self.view_is) c.start-started.ensures.sending

pub returns-else-is_err-clause-started : goal.returns-else-is_err-clause-started
unfolding plan_of
returns-else-is_err-clause-started c =
    on_ok_weaker c.start-started.result
    (λ each t. desk_changed c.self.inside.paces c.self.inside.groups c.self.inside.attempts c.start-started.new.self c.args.tenant.now (added c.args.notice)
    (started_anew c.self.inside.attempts c.start-started.new.self c.args.tenant.now c.args.notice (rw (← c.self.view_is) at c.requires) each) t
    ∙ ap (λ p. cond (same t c.args.tenant.now) (with_desk (added c.args.notice (plan_of t p).desk) (plan_of t p)) (plan_of t p)) c.self.view_is)
    c.start-started.ensures.each

pub returns-then-is_err-clause-fault : goal.returns-then-is_err-clause-fault
unfolding plan_of
returns-then-is_err-clause-fault c = rw (← c.self.view_is) c.start-started.ensures.fault

pub returns-else-is_err-clause-fault : goal.returns-else-is_err-clause-fault
unfolding plan_of
returns-else-is_err-clause-fault c = rw (← c.self.view_is) c.start-started.ensures.fault

pub returns-then-is_err-clause-err : goal.returns-then-is_err-clause-err
returns-then-is_err-clause-err c = at_error c.start-started.result (λ t. all_lost t _ (c.reset.ensures.groups t) (c.reset.ensures.attempts t))

pub returns-else-is_err-clause-err : goal.returns-else-is_err-clause-err
returns-else-is_err-clause-err c = no_error _ c.start-started.result (sym c.is_err.ensures.value ∙ c.if-is_err.false)
