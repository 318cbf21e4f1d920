use Rattle.std.proofs.Common.{◌≡◌, false, [], cond, sym, ap, ◌∙◌}
use Rattle.std.specs.Result.{is_err}
use Rattle.std.proofs.lemmas.Result.{on_ok_weaker}
use Rattle.am_tenant.specs.Names.{same}
use Rattle.am_members.specs.Grouped.{grouped_of}
use Rattle.am_agenda.specs.Plan.{rebuilt}
use Rattle.am_agenda.specs.Planned.{plan_of}
use Rattle.am_agenda.proofs.Keeping.{all_lost, at_error, no_error, none_kept}
use Rattle.am_agenda.proofs.Putting.{went_well}
use Rattle.am_agenda.proofs.Rebuilding.{kept_back, plan_rebuilt}
use Rattle.am_agenda.proofs.agenda.Agenda.put_back.Goals as goal

pub invariant_of-self : goal.invariant_of-self
invariant_of-self c = rw c.reset.ensures.timers (none_kept _ c.reset.ensures.groups c.reset.ensures.attempts)

pub invariant_of-self-else-is_err : goal.invariant_of-self-else-is_err
unfolding plan_of
invariant_of-self-else-is_err c =
    let well : is_err c.put_all-put.result ≡ false = sym c.is_err.ensures.value ∙ c.if-is_err.false in
    let bare : (grouped_of c.args.tenant.now c.self.inside.groups).alerts ≡ [] = rw (← c.self.view_is) at c.requires.none in
    kept_back c.self.inside.paces c.put_all-put.new.book c.self.inside.attempts c.self.inside.groups c.put_all-put.new.groups c.args.tenant.now c.args.paces c.args.list.items
    (went_well c.put_all-put.result well c.put_all-put.ensures.paces) (went_well c.put_all-put.result well c.put_all-put.ensures.alerts) c.put_all-put.ensures.flushes
    c.self.inside.timers.timers c.put_all-put.new.timers.timers c.self.invariant bare c.requires.rising (went_well c.put_all-put.result well c.put_all-put.ensures.timers)

pub returns-else-is_err-clause-plans : goal.returns-else-is_err-clause-plans
returns-else-is_err-clause-plans c =
    let well : is_err c.put_all-put.result ≡ false = sym c.is_err.ensures.value ∙ c.if-is_err.false in
    let t = c.args.tenant.now in
    on_ok_weaker c.put_all-put.result
    (λ paces s. plan_rebuilt c.self.inside.paces c.put_all-put.new.book c.self.inside.attempts c.self.inside.groups c.put_all-put.new.groups t c.args.paces c.args.list.items
    paces (went_well c.put_all-put.result well c.put_all-put.ensures.alerts) c.put_all-put.ensures.flushes s
    ∙ ap (λ p. cond (same s t) (rebuilt c.args.paces c.args.list.items (plan_of s p)) (plan_of s p)) c.self.view_is)
    c.put_all-put.ensures.paces

pub returns-then-is_err-clause-err : goal.returns-then-is_err-clause-err
returns-then-is_err-clause-err c = at_error c.put_all-put.result (λ t. all_lost t _ (c.reset.ensures.groups t) (c.reset.ensures.attempts t))

pub returns-else-is_err-clause-err : goal.returns-else-is_err-clause-err
returns-else-is_err-clause-err c = no_error _ c.put_all-put.result (sym c.is_err.ensures.value ∙ c.if-is_err.false)
