-- What an instance plans for each tenant, how many notices it gave, and at which position.
use Rattle.std.specs.Prelude.{◌≡◌, ℕ, List, Option, Some, option_map, if◌then◌else◌}
use Rattle.am_agenda.specs.Plan.{Plan, dropped as dropped_plan, no_plan}
use Rattle.am_agenda.specs.Planned.{plan_of}
use Rattle.am_limit.specs.Allowances.{allowance_of}
use Rattle.am_limit.specs.Limits.{Count, fresh}
use Rattle.am_notifier.specs.Positions.{number_of, position_of}
use Rattle.am_notifier.specs.declared.notifier.Notifier.{Notifier}
use Rattle.am_planning.specs.Planning.{default_paces}
use Rattle.am_tenant.specs.Names.{same}

-- what is planned; how many notices were given in the last minute in which one was; and the position of the instance
-- among the tenant's replicas, by which its groups wait, where it flushes them
pub record Notifies : Type 0 where
  pub plan : Plan
  pub noticed : Count
  pub position : Option ℕ

abbrev pub nothing : Notifies
nothing = record { plan = no_plan default_paces; noticed = fresh 0; position = Some 0 }

-- of a tenant
unfoldable pub notifies_of : List ℕ → Notifier → Notifies
notifies_of t notifier = record {
  plan = plan_of t notifier.agenda;
  noticed = allowance_of t notifier.allowances;
  position = option_map number_of (position_of t notifier.positions);
}

-- with this plan
abbrev pub with_plan : Plan → Notifies → Notifies
with_plan plan notifies = record notifies { plan = plan }

-- nothing is planned any more, no notice was given and the position is the first, as for a tenant of whom nothing is
-- known; but the numbers that attempts have used stay used
abbrev pub dropped : Notifies → Notifies
dropped notifies = record nothing { plan = dropped_plan notifies.plan }

-- one tenant has what this makes of it, and every other has what it had
abbrev pub Makes : List ℕ → (Notifies → Notifies) → Notifier → Notifier → Type 0
Makes tenant change old new =
    (t : List ℕ) → notifies_of t new ≡ (if same t tenant then change (notifies_of t old) else notifies_of t old)
