use Rattle.std.proofs.Common.{◌<◌, ℕ, List, length, ap, subst, ◌∙◌}
use Rattle.std.proofs.lemmas.List.{length-map}
use Rattle.std.proofs.lemmas.Result.{err_from_is_err_and}
use Rattle.am_labels.specs.declared.Label.{Label}
use Rattle.am_planning.specs.Planning.{planned_alerts}
use Rattle.am_agenda.specs.Plan.{Plan, rebuilt}
use Rattle.am_agenda.specs.Planned.{plan_of}
use Rattle.std.specs.Option.{option_map}
use Rattle.am_notifier.specs.Following.{paces_at, planned_by, sinces_in}
use Rattle.am_notifier.specs.Positions.{number_of}
use Rattle.am_notifier.proofs.Reasons.{by_either}
use Rattle.am_notifier.proofs.ByRoutes.{ordered_planned}
use Rattle.am_notifier.proofs.Coming.{Alerts}
use Rattle.am_context.proofs.Changes.{other, own, one_changes}
use Rattle.am_notifier.proofs.following.plan_all.Goals as goal

pub returns-in_err-planned-clause-failure : goal.returns-in_err-planned-clause-failure
returns-in_err-planned-clause-failure c =
    let p = err_from_is_err_and c.from_residual-in_err-planned.result c.from_residual-in_err-planned.ensures.1 in
    rw (p.1, p.2)
    (by_either _ _ _ _ (λ (some : 0 < length c.in_ok-sinces.sinces.items). subst (λ n. 0 < n) (ap length c.in_ok-sinces.ensures.sinces ∙ length-map (plan_of c.args.tenant.now c.args.agenda.now).grouped.alerts _) some)
    c.in_err-planned.ensures.failure)

pub rebuild-requires : goal.rebuild-requires
rebuild-requires c = rw c.in_ok-planned.ensures.planned (ordered_planned c.args.config.now c.in_ok-sinces.sinces.items c.in_ok-sinces.ensures.rising)

pub returns-clause-plans : goal.returns-clause-plans
returns-clause-plans c =
    let s = c.args.tenant.now in
    let k = c.args.config.now in
    let plan = plan_of s c.args.agenda.now in
    one_changes s (λ (p : Plan). planned_by k (option_map number_of c.args.position) (sinces_in p) p) (λ t. plan_of t c.args.agenda.now) (λ t. plan_of t c.rebuild.new.self)
    (own s _ _ _ (c.in_ok-rebuild.ensures.plans s)
    ∙ ap (λ paces. rebuilt paces c.in_ok-planned.planned.items plan) c.in_ok-paces.ensures
    ∙ ap (λ (alerts : Alerts). rebuilt (paces_at k (option_map number_of c.args.position)) alerts plan)
    (c.in_ok-planned.ensures.planned ∙ ap (λ (sinces : List (List Label × ℕ)). planned_alerts k sinces) c.in_ok-sinces.ensures.sinces))
    (λ t apart. other t s _ _ _ apart (c.in_ok-rebuild.ensures.plans t))
