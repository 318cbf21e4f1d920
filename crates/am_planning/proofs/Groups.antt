-- Alerts with the groups of their routes.
use Rattle.std.proofs.Common.{◌≡◌, ℕ, Bor, List, [], ◌∷◌, map, zip, refl, sym, ap, ◌∙◌}
use Rattle.std.proofs.lemmas.Simd.{map-map}
use Rattle.am_config.specs.Configuration.{Configuration}
use Rattle.am_group.specs.Grouping.{groups_of}
use Rattle.am_labels.specs.declared.Label.{Label}
use Rattle.am_route.specs.Routes.{routes_at}
use Rattle.am_planning.specs.Planning.{planned, planned_alerts, with_routes}

-- each with the routes of its own labels
each_planned : (c : Configuration) (alerts : List (List Label × ℕ)) →
    map (with_routes c) (zip alerts (map (λ (a : List Label × ℕ). routes_at a.0 c.routes) alerts)) ≡ map (planned c) alerts
unfolding groups_of
each_planned c [] = refl
each_planned c (alert ∷ alerts) = ap (λ rest. planned c alert ∷ rest) (each_planned c alerts)

-- by the routes of their label sets, they are planned
pub planned_are : (c : Configuration) (alerts : List (List Label × ℕ)) (sets : List (Bor (List Label))) (routes : List (List ℕ)) →
    map (λ (set' : Bor (List Label)). set'.now) sets ≡ map (λ (a : List Label × ℕ). a.0) alerts →
    routes ≡ map (λ (set' : Bor (List Label)). routes_at set'.now c.routes) sets →
    map (with_routes c) (zip alerts routes) ≡ planned_alerts c alerts
unfolding planned_alerts
planned_are c alerts sets routes same are =
    let each : routes ≡ map (λ (a : List Label × ℕ). routes_at a.0 c.routes) alerts =
    are ∙ sym (map-map (λ labels. routes_at labels c.routes) (λ (set' : Bor (List Label)). set'.now) sets)
    ∙ ap (map (λ labels. routes_at labels c.routes)) same
    ∙ map-map (λ labels. routes_at labels c.routes) (λ (a : List Label × ℕ). a.0) alerts in
    ap (λ rs. map (with_routes c) (zip alerts rs)) each ∙ each_planned c alerts
