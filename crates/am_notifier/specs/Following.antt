-- What is planned for alerts that came.
use Rattle.std.specs.Prelude.{◌≡◌, ◌⊎◌, ◌<◌, ℕ, ◌&&◌, Bool, true, length, min, not, List, [], ◌∷◌, filter, map}
use Rattle.std.specs.Prelude.{Option, Some, None, is_some, if◌then◌else◌}
use Rattle.std.specs.BTreeMap.{insert_entry}
use Rattle.std.specs.List.{list_any}
use Rattle.std.specs.Map.{lookup}
use Rattle.am_agenda.specs.Plan.{Plan, rebuilt, with_alerts}
use Rattle.am_config.specs.Configuration.{Configuration}
use Rattle.am_labels.specs.declared.Label.{Label}
use Rattle.am_labels.specs.Labels.{labels_cmp}
use Rattle.am_members.specs.declared.known.Known.{Known}
use Rattle.am_members.specs.Grouped.{put_all}
use Rattle.am_members.specs.Names.{is_set, without as absent}
use Rattle.am_match.specs.Matchers.{patterns_of}
use Rattle.am_muting.specs.Failing.{HasUnanswered}
use Rattle.am_notifier.specs.Notifies.{Notifies, with_plan}
use Rattle.am_route.specs.Asked.{route_matchers}
use Rattle.am_planning.specs.Planning.{paces_of, planned_alerts}
use Rattle.am_planning.specs.declared.pace.Pace.{Pace}

-- the label sets of the alerts, each with the moment since which it is held
abbrev pub sinces_in : Plan → List (List Label × ℕ)
sinces_in plan = map (λ a. (a.0, a.1.since)) plan.grouped.alerts

-- how the groups of each route wait at a position; without one no route has a pace, so that no group is ever due
abbrev pub paces_at : Configuration → (position : Option ℕ) → List Pace
paces_at c None = []
paces_at c (Some position) = paces_of c position

-- the plan by a configuration at a position, where alerts are held since these moments; flushes and attempts stay
abbrev pub planned_by : Configuration → (position : Option ℕ) → List (List Label × ℕ) → Plan → Plan
planned_by c position sinces plan = rebuilt (paces_at c position) (planned_alerts c sinces) plan

-- the moment since which an alert is held that comes now: the least at which it came
abbrev pub since_by : ℕ → Option ℕ → ℕ
since_by moment None = moment
since_by moment (Some since) = min moment since

-- the moments since which alerts are held, once that of a label set came at this moment
abbrev pub came : ℕ → List Label → List (List Label × ℕ) → List (List Label × ℕ)
came moment labels sinces =
    insert_entry labels_cmp (absent labels sinces) labels (since_by moment (lookup (is_set labels) sinces))

-- .. once those of several did
abbrev pub all_came : ℕ → List (List Label) → List (List Label × ℕ) → List (List Label × ℕ)
all_came moment [] sinces = sinces
all_came moment (labels ∷ sets) sinces = all_came moment sets (came moment labels sinces)

-- a plan goes by a configuration at a position
pub record IsPlannedBy (c : Configuration) (position : Option ℕ) (plan : Plan) : Type 0 where
  pub paces : plan.paces ≡ paces_at c position
  pub groups : plan.grouped.alerts ≡ planned_alerts c (sinces_in plan)

-- an alert of this label set is known
abbrev pub is_known : List Label → List (List Label × Known) → Bool
is_known labels alerts = is_some (lookup (is_set labels) alerts)

-- an alert is known of one of the label sets that are new
abbrev pub is_new_known : List (List Label × Bool) → List (List Label × Known) → Bool
is_new_known came alerts = list_any (λ a. a.1 && is_known a.0 alerts) came

-- what is kept of an alert that came at this moment, if it did: it is held since then at the latest
abbrev pub sooner : ℕ → Bool → Known → Known
sooner moment b known = record { since = if b then min moment known.since else known.since; groups = known.groups }

-- alerts that are known, once those of these label sets came
unfoldable pub all_sooner : ℕ → List (List Label) → List (List Label × Known) → List (List Label × Known)
all_sooner moment sets alerts = map (λ a. (a.0, sooner moment (list_any (is_set a.0) sets) a.1)) alerts

-- those of the label sets of which no alert is known, each with the moment at which it came
unfoldable pub unknown_of : ℕ → List (List Label) → List (List Label × Known) → List (List Label × ℕ)
unknown_of moment sets alerts = map (λ labels. (labels, moment)) (filter (λ labels. not (is_known labels alerts)) sets)

-- alerts once those of these label sets came: those that aren't known are in their groups by the configuration
unfoldable pub met : Configuration → ℕ → List (List Label) → List (List Label × Known) → List (List Label × Known)
met c moment sets alerts = put_all (planned_alerts c (unknown_of moment sets alerts)) (all_sooner moment sets alerts)

-- the same of a plan
abbrev pub with_met : Configuration → ℕ → List (List Label) → Plan → Plan
with_met c moment sets plan = with_alerts (met c moment sets plan.grouped.alerts) plan

-- a plan once alerts of these label sets came, where it goes by the configuration from then on
abbrev pub followed : Configuration → (position : Option ℕ) → ℕ → List (List Label) → Plan → Plan
followed c position moment sets plan = planned_by c position (all_came moment sets (sinces_in plan)) plan

-- .. of a tenant
abbrev pub follows : Configuration → ℕ → List (List Label) → Notifies → Notifies
follows c moment sets notifies = with_plan (followed c notifies.position moment sets notifies.plan) notifies

-- .. once it is at this position
abbrev pub positioned : Configuration → (position : Option ℕ) → Notifies → Notifies
positioned c position notifies = record notifies {
  plan = planned_by c position (sinces_in notifies.plan) notifies.plan;
  position = position;
}

-- a pattern of the routes gave no answer, and there were alerts to plan: one that wasn't known came, or all are planned
-- anew
abbrev pub FailsFollowing : (refused : List (List ℕ)) → Configuration → ℕ → (is_new : Bool) → List (List Label) → Plan
    → Type 0
FailsFollowing refused c moment is_new sets plan =
    ((0 < length (unknown_of moment sets plan.grouped.alerts)) ⊎ ((is_new ≡ true) × (0 < length plan.grouped.alerts)))
    × HasUnanswered refused (patterns_of (route_matchers c.routes))
