-- A plan once alerts came: planned by the configuration that it went by, or anew.
use Rattle.std.proofs.Common.{◌≡◌, ℕ, List, Option, ap, ◌∙◌}
use Rattle.am_agenda.specs.Plan.{Plan, rebuilt, with_alerts}
use Rattle.am_config.specs.Configuration.{Configuration}
use Rattle.am_labels.specs.declared.Label.{Label}
use Rattle.am_planning.specs.Planning.{planned_alerts}
use Rattle.am_notifier.specs.Following.{IsPlannedBy, all_came, followed, paces_at, planned_by, sinces_in, with_met}
use Rattle.am_notifier.proofs.ByRoutes.{met_planned}
use Rattle.am_notifier.proofs.Coming.{Alerts, sinces_met}
use Rattle.am_notifier.proofs.Puts.{IsOrdered}

-- alerts came, and the plan went by the configuration
pub met_by : (c : Configuration) (position : Option ℕ) (moment : ℕ) (sets : List (List Label)) (plan : Plan) → IsOrdered plan.grouped.alerts → IsPlannedBy c position plan
    → with_met c moment sets plan ≡ followed c position moment sets plan
met_by c position moment sets plan up by =
    ap (λ (alerts : Alerts). with_alerts alerts plan) (met_planned c moment sets plan.grouped.alerts up by.groups)
    ∙ ap (λ paces. rebuilt paces (planned_alerts c (all_came moment sets (sinces_in plan))) plan) by.paces

-- alerts came, and all was planned anew
pub met_anew : (c : Configuration) (position : Option ℕ) (moment : ℕ) (sets : List (List Label)) (plan : Plan) → IsOrdered plan.grouped.alerts
    → planned_by c position (sinces_in (with_met c moment sets plan)) (with_met c moment sets plan) ≡ followed c position moment sets plan
met_anew c position moment sets plan up =
    ap (λ (s : List (List Label × ℕ)). rebuilt (paces_at c position) (planned_alerts c s) plan) (sinces_met c moment sets plan.grouped.alerts up)
