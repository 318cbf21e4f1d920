use Rattle.std.proofs.Common.{◌≡◌, false, [], cond, sym, ap, ◌∙◌}
use Rattle.std.specs.Result.{is_err}
use Rattle.std.proofs.lemmas.Result.{on_ok_weaker}
use Rattle.am_tenant.specs.Names.{same}
use Rattle.am_members.specs.Grouped.{Grouped}
use Rattle.am_agenda.specs.Plan.{with_alerts}
use Rattle.am_agenda.specs.Planned.{plan_of}
use Rattle.am_agenda.proofs.Keeping.{all_lost, at_error, no_error, grouped_parts, none_kept, plan_changed, same_at}
use Rattle.am_agenda.proofs.Putting.{went_well}
use Rattle.am_agenda.proofs.Rebuilding.{kept_taken}
use Rattle.am_agenda.proofs.agenda.Agenda.take_out.Goals as goal

pub invariant_of-self : goal.invariant_of-self
invariant_of-self c = rw c.reset.ensures.timers (none_kept _ c.reset.ensures.groups c.reset.ensures.attempts)

pub invariant_of-self-else-is_err : goal.invariant_of-self-else-is_err
invariant_of-self-else-is_err c =
    let well : is_err c.take_out_of-taken.result ≡ false = sym c.is_err.ensures.value ∙ c.if-is_err.false in
    kept_taken c.self.inside.paces c.self.inside.attempts c.self.inside.groups c.take_out_of-taken.new.groups c.args.tenant.now c.of-paces.result.now
    c.self.inside.timers.timers c.take_out_of-taken.new.timers.timers c.of-paces.ensures c.self.invariant (went_well c.take_out_of-taken.result well c.take_out_of-taken.ensures.alerts)
    c.take_out_of-taken.ensures.flushes (went_well c.take_out_of-taken.result well c.take_out_of-taken.ensures.timers)

pub returns-else-is_err-clause-plans : goal.returns-else-is_err-clause-plans
returns-else-is_err-clause-plans c =
    let t = c.args.tenant.now in
    let f = λ (g : Grouped). record g { alerts = [] } in
    on_ok_weaker c.take_out_of-taken.result
    (λ alerts s. plan_changed c.self.inside.paces c.self.inside.attempts c.self.inside.groups c.take_out_of-taken.new.groups t f
    (grouped_parts c.self.inside.groups c.take_out_of-taken.new.groups t f alerts (λ r. same_at (same r t) _ _ (c.take_out_of-taken.ensures.flushes r))) s
    ∙ ap (λ p. cond (same s t) (with_alerts [] (plan_of s p)) (plan_of s p)) c.self.view_is)
    c.take_out_of-taken.ensures.alerts

pub returns-then-is_err-clause-err : goal.returns-then-is_err-clause-err
returns-then-is_err-clause-err c = at_error c.take_out_of-taken.result (λ t. all_lost t _ (c.reset.ensures.groups t) (c.reset.ensures.attempts t))

pub returns-else-is_err-clause-err : goal.returns-else-is_err-clause-err
returns-else-is_err-clause-err c = no_error _ c.take_out_of-taken.result (sym c.is_err.ensures.value ∙ c.if-is_err.false)
