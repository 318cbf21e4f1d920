-- Alerts and groups that are listed, as the code has them.
use Rattle.std.specs.Prelude.{ℕ, List, map, slice_get}
use Rattle.std.specs.List.{filter_map}
use Rattle.serde_json.specs.Data.{Data, array}
use Rattle.serde_json.specs.View.{items_of}
use Rattle.serde_json.specs.Written.{compact_text}
use Rattle.am_labels.specs.declared.Label.{Label}
use Rattle.am_alert.specs.HeldAlert.{held_alert}
use Rattle.am_config.specs.Configuration.{Configuration}
use Rattle.am_payload.specs.declared.alerts.ReadAlert.{ReadAlert}
use Rattle.am_payload.specs.declared.groups.ReadGroup.{ReadGroup}
use Rattle.am_payload.specs.Groups.{group_data}
use Rattle.am_payload.specs.Receivers.{names_at}
use Rattle.am_payload.specs.Written.{alert_data}

-- the label sets of the alerts that inhibit it
abbrev pub inhibiting_of : ReadAlert → List (List Label)
inhibiting_of alert = map (λ set. set.now) alert.inhibited_by

-- an alert, with the names of its receivers by a configuration
abbrev pub read_data : Configuration → ReadAlert → Data
read_data c read = alert_data (names_at c read.receivers) read.silenced_by (inhibiting_of read) (held_alert read.alert)

-- a list of them
abbrev pub reads_data : Configuration → List ReadAlert → Data
reads_data c alerts = array (items_of (map (read_data c) alerts))

-- its bytes
abbrev pub reads_text : Configuration → List ReadAlert → List ℕ
reads_text c alerts = compact_text (reads_data c alerts)

-- the alerts at these places of a list
abbrev pub reads_at : List ReadAlert → List ℕ → List ReadAlert
reads_at alerts places = filter_map (slice_get alerts) places

-- a group of these alerts, with the names of their receivers by a configuration
abbrev pub read_group_data : Configuration → List ReadAlert → ReadGroup → Data
read_group_data c alerts group = group_data (map (read_data c) (reads_at alerts group.alerts)) group.labels.now group.receiver.now

-- a list of them
abbrev pub groups_data : Configuration → List ReadAlert → List ReadGroup → Data
groups_data c alerts groups = array (items_of (map (read_group_data c alerts) groups))

-- its bytes
abbrev pub groups_text : Configuration → List ReadAlert → List ReadGroup → List ℕ
groups_text c alerts groups = compact_text (groups_data c alerts groups)
