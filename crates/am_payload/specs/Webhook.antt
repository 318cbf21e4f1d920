-- The JSON body that tells a webhook of a group of alerts: keys in order of name, no spaces.
use Rattle.std.specs.Prelude.{ℕ, Bool, true, false, List, [], ◌∷◌, ◌++◌, map, filter, codes, decimal}
use Rattle.std.specs.List.{list_all, list_any}
use Rattle.std.specs.Ordering.{is_eq}
use Rattle.serde_json.specs.Data.{Data, number, string, array, object, no_members, member, unsigned}
use Rattle.serde_json.specs.View.{items_of}
use Rattle.serde_json.specs.Written.{compact_text}
use Rattle.am_text.specs.Printing.{moment_text}
use Rattle.am_labels.specs.declared.Label.{Label}
use Rattle.am_labels.specs.Labels.{label_cmp}
use Rattle.am_item.specs.declared.item.Alert.{Alert}
use Rattle.am_item.specs.declared.stamp.Stamped.{Stamped}
use Rattle.am_json.specs.Written.{labels_data}
use Rattle.am_payload.specs.Written.{print_of}

-- the label is one of these, by name and value
abbrev pub is_among : List Label → Label → Bool
is_among labels label = list_any (λ other. is_eq (label_cmp other label)) labels

-- the labels that stand in each of the lists
abbrev pub common : List (List Label) → List Label
common [] = []
common (first ∷ others) = filter (λ label. list_all (λ labels. is_among labels label) others) first

-- a group's key: the number of its route, then its labels as JSON
unfoldable pub group_key : (route : ℕ) → List Label → List ℕ
group_key route labels = decimal route ++ compact_text (labels_data labels)

-- what fires is `firing`, else it is `resolved`
abbrev pub status_name : Bool → List ℕ
status_name true = codes "firing"
status_name false = codes "resolved"

-- the end of an alert that fires isn't told: the absent instant stands for it
abbrev pub end_text : (fires : Bool) → ℕ → List ℕ
end_text true end = codes "0001-01-01T00:00:00Z"
end_text false end = moment_text end

-- an alert that is told as firing or as resolved
unfoldable pub told_data : Stamped Alert → (fires : Bool) → Data
told_data a fires = object
    (member (codes "annotations") (labels_data a.value.annotations)
    (member (codes "endsAt") (string (end_text fires a.value.ends_at))
    (member (codes "fingerprint") (string (print_of a.value.labels))
    (member (codes "generatorURL") (string a.value.generator_url)
    (member (codes "labels") (labels_data a.value.labels)
    (member (codes "startsAt") (string (moment_text a.value.starts_at))
    (member (codes "status") (string (status_name fires)) no_members)))))))

-- alerts, each with whether it fires
abbrev pub all_told_data : List (Stamped Alert × Bool) → Data
all_told_data alerts = array (items_of (map (λ told. told_data told.0 told.1) alerts))

-- the labels that all of the alerts have
abbrev pub common_labels : List (Stamped Alert × Bool) → List Label
common_labels alerts = common (map (λ told. told.0.value.labels) alerts)

-- the annotations that all of them have
abbrev pub common_annotations : List (Stamped Alert × Bool) → List Label
common_annotations alerts = common (map (λ told. told.0.value.annotations) alerts)

-- one of them fires
abbrev pub some_fires : List (Stamped Alert × Bool) → Bool
some_fires alerts = list_any (λ told. told.1) alerts

-- what a receiver is told of a group by its route and its labels: these of its alerts, each with whether it fires, and how
-- many more there are
unfoldable pub webhook_data : (receiver : List ℕ) → (route : ℕ) → (labels : List Label) → List (Stamped Alert × Bool) → (truncated : ℕ) → Data
webhook_data receiver route labels alerts truncated = object
    (member (codes "alerts") (all_told_data alerts)
    (member (codes "commonAnnotations") (labels_data (common_annotations alerts))
    (member (codes "commonLabels") (labels_data (common_labels alerts))
    (member (codes "externalURL") (string (codes "http://localhost/alertmanager"))
    (member (codes "groupKey") (string (group_key route labels))
    (member (codes "groupLabels") (labels_data labels)
    (member (codes "receiver") (string receiver)
    (member (codes "status") (string (status_name (some_fires alerts)))
    (member (codes "truncatedAlerts") (number (unsigned truncated))
    (member (codes "version") (string (codes "4")) no_members))))))))))

-- its bytes
abbrev pub webhook_text : (receiver : List ℕ) → (route : ℕ) → (labels : List Label) → List (Stamped Alert × Bool) → (truncated : ℕ) → List ℕ
webhook_text receiver route labels alerts truncated = compact_text (webhook_data receiver route labels alerts truncated)
