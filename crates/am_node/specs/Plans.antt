-- What is planned goes by what is held: by the configuration that is in use, for the alerts that are held.
use Rattle.std.specs.Prelude.{◌≡◌, [], Some}
use Rattle.std.specs.Map.{keys_of}
use Rattle.am_current.specs.Current.{configuration_in}
use Rattle.am_item.specs.Best.{IsRising}
use Rattle.am_muting.specs.Muting.{alert_sets}
use Rattle.am_notifier.specs.Planned.{planned_alerts}
use Rattle.am_node.specs.Local.{Local}
use Rattle.am_notifier.specs.Following.{paces_at, sinces_in}

-- what is held is in the order of keys; the routes wait by the configuration in use and the position, the alerts have
-- their groups by that configuration, and they are all alerts that are held
pub record IsPlanned (local : Local) : Type 0 where
  pub rising : IsRising local.held
  pub paces : local.plan.paces ≡ paces_at (configuration_in local.held) local.position
  pub groups : local.plan.grouped.alerts ≡ planned_alerts (configuration_in local.held) (sinces_in local.plan)
  pub alerts : keys_of local.plan.grouped.alerts ≡ alert_sets local.held

-- no alert is held, and the groups of one would wait by the first position
pub record HoldsNoAlert (local : Local) : Type 0 where
  pub sinces : sinces_in local.plan ≡ []
  pub position : local.position ≡ Some 0
