-- What a flush does, as clauses see it.
use Rattle.std.specs.Prelude.{◌≡◌, ℕ, List, map}
use Rattle.am_item.specs.declared.item.Alert.{Alert}
use Rattle.am_item.specs.declared.stamp.Stamped.{Stamped}
use Rattle.am_alert.specs.HeldAlert.{held_alert}
use Rattle.am_group.specs.declared.notice.Act.{Act}
use Rattle.am_group.specs.declared.notice.Act.TheVariants.{Notify, Keep}
use Rattle.am_group.specs.declared.notice.Parted.{Parted}
use Rattle.am_group.specs.Notices.{Deed, Told, Kept, firing_at, resolved_at}

-- what an act is
abbrev pub deed : Act → Deed
deed (Notify notice) = Told notice.webhook (map held_alert notice.alerts) notice.firing notice.resolved
deed (Keep webhook) = Kept webhook

-- the alerts are parted into those that fire and those that are resolved
pub record AreParted (moment : ℕ) (alerts : List (Stamped Alert)) (parted : Parted) : Type 0 where
  pub all : map held_alert parted.all.items ≡ alerts
  pub firing : map held_alert parted.firing.items ≡ firing_at moment alerts
  pub resolved : map held_alert parted.resolved.items ≡ resolved_at moment alerts
