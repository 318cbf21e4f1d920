-- Alerts that are held, each as one value.
use Rattle.std.specs.Prelude.{List, map}
use Rattle.am_labels.specs.declared.Label.{Label}
use Rattle.am_item.specs.declared.item.Alert.{Alert}
use Rattle.am_item.specs.declared.item.AlertDetails.{AlertDetails}
use Rattle.am_item.specs.declared.stamp.Stamped.{Stamped}
use Rattle.am_alert.specs.declared.held.HeldAlert.{HeldAlert}

-- what is held under a label set, as an alert with its stamp
abbrev pub held_under : List Label → Stamped AlertDetails → Stamped Alert
held_under labels held = record {
  stamp = held.stamp;
  value = record {
    labels = labels;
    annotations = held.value.annotations;
    starts_at = held.value.starts_at;
    ends_at = held.value.ends_at;
    generator_url = held.value.generator_url;
  };
}

-- a borrowed alert, as an alert with its stamp
abbrev pub held_alert : HeldAlert → Stamped Alert
held_alert alert = held_under alert.labels.now alert.details.now

-- what is held under label sets, as alerts with their stamps
abbrev pub all_held : List (List Label × Stamped AlertDetails) → List (Stamped Alert)
all_held entries = map (λ entry. held_under entry.0 entry.1) entries
