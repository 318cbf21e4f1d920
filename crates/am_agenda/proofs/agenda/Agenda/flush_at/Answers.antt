use Rattle.std.proofs.Common.{◌≡◌, false, cond, sym, ap, ◌∙◌}
use Rattle.std.specs.Result.{is_err}
use Rattle.std.proofs.lemmas.Result.{on_ok_weaker}
use Rattle.am_tenant.specs.Names.{same}
use Rattle.am_agenda.specs.Plan.{with_flush}
use Rattle.am_agenda.specs.Planned.{plan_of}
use Rattle.am_agenda.proofs.Keeping.{all_lost, at_error, no_error, grouped_parts, none_kept, plan_changed, same_at}
use Rattle.am_agenda.proofs.Putting.{flushed_in, kept_flushed, went_well}
use Rattle.am_agenda.proofs.agenda.Agenda.flush_at.Goals as goal

pub invariant_of-self : goal.invariant_of-self
invariant_of-self c = rw c.reset.ensures.timers (none_kept _ c.reset.ensures.groups c.reset.ensures.attempts)

pub invariant_of-self-else-is_err : goal.invariant_of-self-else-is_err
invariant_of-self-else-is_err c =
    let well : is_err c.flush_in-flushed.result ≡ false = sym c.is_err.ensures.value ∙ c.if-is_err.false in
    kept_flushed c.self.inside.paces c.self.inside.attempts c.self.inside.groups c.flush_in-flushed.new.groups c.args.tenant.now c.args.group.now c.args.moment c.of-paces.result.now
    c.self.inside.timers.timers c.flush_in-flushed.new.timers.timers c.of-paces.ensures c.self.invariant (went_well c.flush_in-flushed.result well c.flush_in-flushed.ensures.alerts)
    (went_well c.flush_in-flushed.result well c.flush_in-flushed.ensures.flushes) (went_well c.flush_in-flushed.result well c.flush_in-flushed.ensures.timers)

pub returns-else-is_err-clause-plans : goal.returns-else-is_err-clause-plans
returns-else-is_err-clause-plans c =
    let well : is_err c.flush_in-flushed.result ≡ false = sym c.is_err.ensures.value ∙ c.if-is_err.false in
    let g = c.args.group.now in
    let t = c.args.tenant.now in
    on_ok_weaker c.flush_in-flushed.result
    (λ alerts s. plan_changed c.self.inside.paces c.self.inside.attempts c.self.inside.groups c.flush_in-flushed.new.groups t (flushed_in g c.args.moment)
    (grouped_parts c.self.inside.groups c.flush_in-flushed.new.groups t (flushed_in g c.args.moment) (λ r. same_at (same r t) _ _ (alerts r)) (went_well c.flush_in-flushed.result well c.flush_in-flushed.ensures.flushes)) s
    ∙ ap (λ p. cond (same s t) (with_flush g c.args.moment (plan_of s p)) (plan_of s p)) c.self.view_is)
    c.flush_in-flushed.ensures.alerts

pub flush_in-flushed-requires : goal.flush_in-flushed-requires
unfolding plan_of
flush_in-flushed-requires c = rw (← c.self.view_is) at c.requires

pub returns-then-is_err-clause-err : goal.returns-then-is_err-clause-err
returns-then-is_err-clause-err c = at_error c.flush_in-flushed.result (λ t. all_lost t _ (c.reset.ensures.groups t) (c.reset.ensures.attempts t))

pub returns-else-is_err-clause-err : goal.returns-else-is_err-clause-err
returns-else-is_err-clause-err c = no_error _ c.flush_in-flushed.result (sym c.is_err.ensures.value ∙ c.if-is_err.false)
