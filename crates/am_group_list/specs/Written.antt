-- The list of groups in a reply.
use Rattle.std.specs.Prelude.{ℕ, List, map}
use Rattle.serde_json.specs.Data.{Data, array}
use Rattle.serde_json.specs.View.{items_of}
use Rattle.serde_json.specs.Written.{compact_text}
use Rattle.am_item.specs.declared.item.Alert.{Alert}
use Rattle.am_item.specs.declared.item.Item.{Item}
use Rattle.am_item.specs.declared.stamp.Stamped.{Stamped}
use Rattle.am_config.specs.Configuration.{Configuration}
use Rattle.am_payload.specs.Groups.{group_data}
use Rattle.am_query.specs.declared.query.Query.{Query}
use Rattle.am_listing.specs.Shown.{passed}
use Rattle.am_listing.specs.Written.{shown_data}
use Rattle.am_group_list.specs.Groups.{grouped, memberships}
use Rattle.am_group_list.specs.declared.group.ListedGroup.{ListedGroup}

-- a group with its alerts, each as the list of alerts shows it
abbrev pub grouped_data : Configuration → ℕ → List Item → ListedGroup × List (Stamped Alert) → Data
grouped_data c moment held group = group_data (map (shown_data c moment held) group.1) group.0.labels group.0.receiver

-- the list of the groups whose receiver a query asks for, with those of their alerts that it passes
abbrev pub groups_data : Configuration → Query → ℕ → List Item → Data
groups_data c query moment held =
    array (items_of (map (grouped_data c moment held)
    (grouped (memberships c query.receiver (passed c query moment held)))))

-- its bytes
unfoldable pub groups_text : Configuration → Query → ℕ → List Item → List ℕ
groups_text c query moment held = compact_text (groups_data c query moment held)
