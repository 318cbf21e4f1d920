-- The JSON of replies: keys in order of name, no spaces.
use Rattle.std.specs.Prelude.{ℕ, List, [], ◌∷◌, map, codes}
use Rattle.serde_json.specs.Data.{Data, string, array, object, no_members, member}
use Rattle.serde_json.specs.View.{items_of}
use Rattle.serde_json.specs.Written.{compact_text}
use Rattle.am_text.specs.Printing.{moment_text}
use Rattle.am_labels.specs.declared.Label.{Label}
use Rattle.am_labels.specs.Hashes.{fingerprint, fingerprint_text}
use Rattle.am_item.specs.declared.item.Alert.{Alert}
use Rattle.am_item.specs.declared.stamp.Stamped.{Stamped}
use Rattle.am_json.specs.Written.{labels_data, texts_data}
use Rattle.am_config.specs.Configuration.{Configuration}
use Rattle.am_words.specs.Ids.{id_text}
use Rattle.am_payload.specs.Receivers.{names_of}

-- a receiver, by its name
abbrev pub receiver_data : List ℕ → Data
receiver_data name = object (member (codes "name") (string name) no_members)

-- receivers, by their names
abbrev pub receivers_data : List (List ℕ) → Data
receivers_data names = array (items_of (map receiver_data names))

-- the bytes of the list of all receivers of a configuration
unfoldable pub receivers_text : Configuration → List ℕ
receivers_text c = compact_text (receivers_data (names_of c))

-- the text of a label set's fingerprint
abbrev pub print_of : List Label → List ℕ
print_of labels = fingerprint_text (fingerprint labels)

-- an alert that a silence or another alert mutes is suppressed, another is active
abbrev pub alert_state : List (List ℕ) → List (List Label) → List ℕ
alert_state [] [] = codes "active"
alert_state [] (labels ∷ inhibiting) = codes "suppressed"
alert_state (id ∷ silencing) inhibiting = codes "suppressed"

-- which silences, by identifier, and which alerts, by label set, mute an alert
abbrev pub status_data : List (List ℕ) → List (List Label) → Data
status_data silencing inhibiting = object
    (member (codes "inhibitedBy") (texts_data (map print_of inhibiting))
    (member (codes "silencedBy") (texts_data (map id_text silencing))
    (member (codes "state") (string (alert_state silencing inhibiting)) no_members)))

-- an alert that is read, with the names of its receivers, the silences and the alerts that mute it; it was updated at its
-- stamp's moment
unfoldable pub alert_data : List (List ℕ) → List (List ℕ) → List (List Label) → Stamped Alert → Data
alert_data receivers silencing inhibiting a = object
    (member (codes "annotations") (labels_data a.value.annotations)
    (member (codes "endsAt") (string (moment_text a.value.ends_at))
    (member (codes "fingerprint") (string (print_of a.value.labels))
    (member (codes "generatorURL") (string a.value.generator_url)
    (member (codes "labels") (labels_data a.value.labels)
    (member (codes "receivers") (receivers_data receivers)
    (member (codes "startsAt") (string (moment_text a.value.starts_at))
    (member (codes "status") (status_data silencing inhibiting)
    (member (codes "updatedAt") (string (moment_text a.stamp.moment)) no_members)))))))))

-- a configuration's text, as it is posted and read
abbrev pub document_data : List ℕ → Data
document_data text = object
    (member (codes "alertmanager_config") (string text)
    (member (codes "template_files") (object no_members) no_members))

-- its bytes
unfoldable pub document_text : List ℕ → List ℕ
document_text text = compact_text (document_data text)
