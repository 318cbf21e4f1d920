use Rattle.std.proofs.Common.{ℕ, Bor, List, map, zip, ap, ◌∙◌}
use Rattle.am_labels.specs.declared.Label.{Label}
use Rattle.am_route.specs.Routes.{routes_at}
use Rattle.am_planning.specs.Planning.{with_routes}
use Rattle.am_planning.proofs.Groups.{planned_are}
use Rattle.am_planning.proofs.alerts.plan_alerts.Goals as goal

pub returns-clause-planned : goal.returns-clause-planned
returns-clause-planned c =
    c.in_ok-planned.ensures
    ∙ ap (λ alerts. map (with_routes c.args.config.now) (zip alerts c.deref-4.result.now)) c.deref-3.ensures.value
    ∙ ap (λ rs. map (with_routes c.args.config.now) (zip c.args.alerts.items rs)) c.deref-4.ensures.value
    ∙ planned_are c.args.config.now c.args.alerts.items c.in_ok-sets.sets.items c.in_ok-routes.routes.items (c.in_ok-sets.ensures ∙ ap (map (λ (a : List Label × ℕ). a.0)) c.deref.ensures.value)
    (c.in_ok-routes.ensures.routes ∙ ap (map (λ (set' : Bor (List Label)). routes_at set'.now c.args.config.now.routes)) c.deref-2.ensures.value)
