use Rattle.std.proofs.Common.{◌∙◌, ap}
use Rattle.std.specs.Option.{option_map}
use Rattle.std.proofs.lemmas.Result.{err_from_is_err_and}
use Rattle.am_agenda.specs.Plan.{Plan}
use Rattle.am_agenda.specs.Planned.{plan_of}
use Rattle.am_context.proofs.Changes.{other, own, one_changes}
use Rattle.am_limit.specs.Allowances.{allowance_of}
use Rattle.am_notifier.specs.Following.{positioned, planned_by, sinces_in}
use Rattle.am_notifier.specs.Notifies.{notifies_of}
use Rattle.am_notifier.specs.Positions.{number_of, position_of}
use Rattle.am_notifier.proofs.Parts.{with_parts}
use Rattle.am_notifier.proofs.notifier.Notifier.set_position.Goals as goal

pub returns-clause-plans : goal.returns-clause-plans
unfolding notifies_of
returns-clause-plans c =
    let s = c.args.tenant.now in
    let r = c.args.self.now in
    let position = option_map number_of c.args.position in
    one_changes s (positioned c.args.config.now position) (λ t. notifies_of t r) _
    (ap (λ (p : Plan). with_parts p (allowance_of s r.allowances) (option_map number_of (position_of s c.set.new.self))) (own s _ _ _ (c.in_ok-plan_all.ensures.plans s))
    ∙ ap (λ at. with_parts (planned_by c.args.config.now position (sinces_in (plan_of s r.agenda)) (plan_of s r.agenda)) (allowance_of s r.allowances) (option_map number_of at))
    (own s _ _ _ (c.in_ok-set.ensures s)))
    (λ t apart.
    ap (λ (p : Plan). with_parts p (allowance_of t r.allowances) (option_map number_of (position_of t c.set.new.self))) (other t s _ _ _ apart (c.in_ok-plan_all.ensures.plans t))
    ∙ ap (λ at. with_parts (plan_of t r.agenda) (allowance_of t r.allowances) (option_map number_of at)) (other t s _ _ _ apart (c.in_ok-set.ensures t)))

pub returns-in_err-plan_all-clause-failure : goal.returns-in_err-plan_all-clause-failure
unfolding notifies_of
returns-in_err-plan_all-clause-failure c =
    let p = err_from_is_err_and c.from_residual.result c.from_residual.ensures.1 in
    rw (p.1, p.2) c.in_err-plan_all.ensures.failure
