-- The JSON of groups of alerts: keys in order of name, no spaces.
use Rattle.std.specs.Prelude.{ℕ, List, codes}
use Rattle.serde_json.specs.Data.{Data, array, object, no_members, member}
use Rattle.serde_json.specs.View.{items_of}
use Rattle.am_labels.specs.declared.Label.{Label}
use Rattle.am_json.specs.Written.{labels_data}
use Rattle.am_payload.specs.Written.{receiver_data}

-- a group: its alerts as they are read, its labels, and its receiver by name
unfoldable pub group_data : (alerts : List Data) → (labels : List Label) → (receiver : List ℕ) → Data
group_data alerts labels receiver = object
    (member (codes "alerts") (array (items_of alerts))
    (member (codes "labels") (labels_data labels)
    (member (codes "receiver") (receiver_data receiver) no_members)))
