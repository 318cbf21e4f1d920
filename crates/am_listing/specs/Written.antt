-- The list of alerts in a reply.
use Rattle.std.specs.Prelude.{ℕ, List, map}
use Rattle.serde_json.specs.Data.{Data, array}
use Rattle.serde_json.specs.View.{items_of}
use Rattle.serde_json.specs.Written.{compact_text}
use Rattle.am_item.specs.declared.item.Alert.{Alert}
use Rattle.am_item.specs.declared.item.Item.{Item}
use Rattle.am_item.specs.declared.stamp.Stamped.{Stamped}
use Rattle.am_config.specs.Configuration.{Configuration}
use Rattle.am_muting.specs.Muting.{Muting, muting_of}
use Rattle.am_payload.specs.Receivers.{names_at}
use Rattle.am_payload.specs.Written.{alert_data}
use Rattle.am_query.specs.declared.query.Query.{Query}
use Rattle.am_listing.specs.Receivers.{receivers_of}
use Rattle.am_listing.specs.Shown.{shown}

-- an alert with receivers at these places of a configuration, and with what mutes it
abbrev pub data_by : Configuration → List ℕ → Muting → Stamped Alert → Data
data_by c places muting alert = alert_data (names_at c places) muting.silenced_by muting.inhibited_by alert

-- an alert with the receivers that it has by a configuration, and with what mutes it at the moment
abbrev pub shown_data : Configuration → ℕ → List Item → Stamped Alert → Data
shown_data c moment held alert =
    data_by c (receivers_of c alert.value.labels) (muting_of c moment held alert.value.labels) alert

-- the list of the alerts that a query shows
abbrev pub alerts_data : Configuration → Query → ℕ → List Item → Data
alerts_data c query moment held = array (items_of (map (shown_data c moment held) (shown c query moment held)))

-- its bytes
unfoldable pub alerts_text : Configuration → Query → ℕ → List Item → List ℕ
alerts_text c query moment held = compact_text (alerts_data c query moment held)
