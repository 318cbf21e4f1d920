-- What becomes of items that an instance accepts.
use Rattle.std.specs.Prelude.{◌≡◌, ◌⊎◌, ℕ, ◌+◌, ◌<◌, true, Bool, not, List, length, Option, unwrap_or, if◌then◌else◌}
use Rattle.std.specs.List.{list_any}
use Rattle.am_current.specs.Current.{configuration_in}
use Rattle.am_current.specs.Replacing.{replaces}
use Rattle.am_item.specs.Best.{all_joined, item_at}
use Rattle.am_item.specs.declared.fault.Fault.{Fault}
use Rattle.am_item.specs.declared.fault.Fault.TheVariants.{OutOfMemory, CountsExhausted, PatternNotBuilt, StoreRefused}
use Rattle.am_item.specs.declared.item.Item.{Item}
use Rattle.am_item.specs.declared.key.ThingKey.TheVariants.{Configuration as ConfigurationKey}
use Rattle.am_match.specs.Matchers.{patterns_of}
use Rattle.am_muting.specs.Failing.{HasUnanswered}
use Rattle.am_muting.specs.Muting.{alert_sets}
use Rattle.am_route.specs.Asked.{route_matchers}
use Rattle.am_rows.specs.Rows.{has_stored}
use Rattle.am_tenant.specs.Names.{same}
use Rattle.am_node.specs.Local.{Local}
use Rattle.am_notifier.specs.Following.{planned_by, sinces_in, all_came, is_known}

-- items are accepted at a moment: the best are held, and what is planned goes by these
unfoldable pub accepted : ℕ → List Item → Local → Local
accepted moment items local = record local {
  held = all_joined local.held items;
  plan = planned_by (configuration_in (all_joined local.held items)) local.position
      (all_came moment (alert_sets items) (sinces_in local.plan)) local.plan;
}

-- .. of one tenant, as each tenant sees it
abbrev pub accepted_for : List ℕ → ℕ → List Item → List ℕ → Local → Local
accepted_for tenant moment items t local = if same t tenant then accepted moment items local else local

-- so many more items were made and stamped, and where words were drawn for them, the place of the next one is kept
abbrev pub counted : (more : ℕ) → (drawn : Option ℕ) → Local → Local
counted more drawn local = record local {
  ledger = record { stamps = local.ledger.stamps + more; drawn = unwrap_or drawn local.ledger.drawn };
}

-- ---- the position

-- the groups wait by this position from then on
abbrev pub positioned : (position : Option ℕ) → Local → Local
positioned position local = record local {
  plan = planned_by (configuration_in local.held) position (sinces_in local.plan) local.plan;
  position = position;
}

-- why it stops: there are alerts, and a pattern of the routes that are in use gave no answer; or memory ran out
abbrev pub StopsPositioning : (refused : List (List ℕ)) → Local → Fault → Type 0
StopsPositioning refused local OutOfMemory = Unit {0}
StopsPositioning refused local CountsExhausted = ⊥
StopsPositioning refused local PatternNotBuilt =
    (0 < length local.plan.grouped.alerts)
    × HasUnanswered refused (patterns_of (route_matchers (configuration_in local.held).routes))
StopsPositioning refused local StoreRefused = ⊥

-- ---- how it is done

-- an alert among the items is of a label set of which none is known
abbrev pub brings_alert : List Item → Local → Bool
brings_alert items local = list_any (λ labels. not (is_known labels local.plan.grouped.alerts)) (alert_sets items)

-- a configuration is among them that takes the place of the one that is held
abbrev pub brings_configuration : List Item → Local → Bool
brings_configuration items local = list_any (replaces (item_at ConfigurationKey local.held)) items

-- why it stops: there are alerts to plan, and a pattern of the routes of the configuration that is in use then gave no
-- answer; or
-- memory ran out
abbrev pub StopsAccepting : (refused : List (List ℕ)) → List Item → Local → Fault → Type 0
StopsAccepting refused items local OutOfMemory = Unit {0}
StopsAccepting refused items local CountsExhausted = ⊥
StopsAccepting refused items local PatternNotBuilt =
    ((brings_alert items local ≡ true) ⊎ ((brings_configuration items local ≡ true)
    × (0 < length local.plan.grouped.alerts)))
    × HasUnanswered refused (patterns_of (route_matchers (configuration_in (all_joined local.held items)).routes))
StopsAccepting refused items local StoreRefused = ⊥

-- the same of items that are committed first: the store may refuse those that are stored
abbrev pub StopsCommitting : (refused : List (List ℕ)) → List Item → Local → Fault → Type 0
StopsCommitting refused items local StoreRefused = has_stored items ≡ true
StopsCommitting refused items local OutOfMemory = Unit {0}
StopsCommitting refused items local CountsExhausted = ⊥
StopsCommitting refused items local PatternNotBuilt = StopsAccepting refused items local PatternNotBuilt
