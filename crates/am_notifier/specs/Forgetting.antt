-- What is planned for what went from what is held.
use Rattle.std.specs.Prelude.{ℕ, List, filter, not}
use Rattle.am_agenda.specs.Plan.{Plan, with_alerts, with_living, without_alert}
use Rattle.am_context.specs.Gone.{is_gone}
use Rattle.am_item.specs.Key.{AlertKey, Key}
use Rattle.am_item.specs.declared.key.ThingKey.{ThingKey}
use Rattle.am_item.specs.declared.key.ThingKey.TheVariants as key
use Rattle.am_labels.specs.declared.Label.{Label}
use Rattle.am_members.specs.declared.known.Known.{Known}
use Rattle.am_notifier.specs.Notifies.{Notifies, with_plan}

-- of a tenant's alerts those that didn't go
abbrev pub alerts_without : List ℕ → (gone : List (List ℕ × Key)) → List (List Label × Known)
    → List (List Label × Known)
alerts_without t gone alerts = filter (λ a. not (is_gone t (AlertKey a.0) gone)) alerts

-- a tenant's plan without these, and without the last flushes of groups that have no members
abbrev pub plan_left : List ℕ → (gone : List (List ℕ × Key)) → Plan → Plan
plan_left t gone plan = with_living (with_alerts (alerts_without t gone plan.grouped.alerts) plan)

-- what went is forgotten
abbrev pub forgotten : List ℕ → (gone : List (List ℕ × Key)) → Notifies → Notifies
forgotten t gone notifies = with_plan (plan_left t gone notifies.plan) notifies

-- what is planned without what has this key: only alerts have a place in a plan
abbrev pub plan_without : ThingKey → Plan → Plan
plan_without (key.Alert labels) plan = without_alert labels plan
plan_without key.Configuration plan = plan
plan_without (key.Silence id) plan = plan
plan_without (key.SentEntry entry) plan = plan
