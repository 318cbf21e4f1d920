-- What mutes alerts.
use Rattle.std.specs.Prelude.{ℕ, Bool, not, ◌||◌, ◌==◌, List, [], filter, length, map}
use Rattle.am_labels.specs.declared.Label.{Label}
use Rattle.am_item.specs.declared.item.Alert.{Alert}
use Rattle.am_item.specs.declared.item.Item.{Item}
use Rattle.am_item.specs.declared.stamp.Stamped.{Stamped}
use Rattle.am_config.specs.Configuration.{Configuration}
use Rattle.am_alert.specs.Held.{alerts_among, firing}
use Rattle.am_silence.specs.Held.{silencing}
use Rattle.am_inhibit.specs.Inhibits.{inhibitors}

-- the identifiers of the silences that silence an alert, and the label sets of the alerts that inhibit it
pub record Muting : Type 0 where
  pub silenced_by : List (List ℕ)
  pub inhibited_by : List (List Label)

-- nothing mutes it
abbrev pub nothing : Muting
nothing = record { silenced_by = []; inhibited_by = [] }

abbrev pub is_silenced : Muting → Bool
is_silenced muting = not (length muting.silenced_by == 0)

abbrev pub is_inhibited : Muting → Bool
is_inhibited muting = not (length muting.inhibited_by == 0)

-- something mutes it
abbrev pub is_muted : Muting → Bool
is_muted muting = is_silenced muting || is_inhibited muting

-- what mutes an alert with these labels, where alerts with those label sets fire: the silences that are active at the
-- moment and take it, and the firing alerts that inhibit it by the configuration's rules, each in their order
abbrev pub muting_by : Configuration → ℕ → List Item → List (List Label) → List Label → Muting
muting_by c moment held sets labels = record {
  silenced_by = silencing moment held labels;
  inhibited_by = inhibitors c.rules sets labels;
}

-- the label sets of the alerts that fire, in their order
abbrev pub firing_sets : ℕ → List Item → List (List Label)
firing_sets moment held = map (λ (alert : Stamped Alert). alert.value.labels) (firing moment held)

-- what mutes an alert with these labels at the moment, whether it fires or is resolved
unfoldable pub muting_of : Configuration → ℕ → List Item → List Label → Muting
muting_of c moment held labels = muting_by c moment held (firing_sets moment held) labels

-- the label sets of all alerts, in their order
abbrev pub alert_sets : List Item → List (List Label)
alert_sets held = map (λ (alert : Stamped Alert). alert.value.labels) (alerts_among held)

-- those of the alerts that something mutes at the moment
unfoldable pub muted_sets : Configuration → ℕ → List Item → List (List Label)
muted_sets c moment held = filter (λ labels. is_muted (muting_of c moment held labels)) (alert_sets held)
