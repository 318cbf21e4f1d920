-- Which silences and firing alerts are asked what they mute.
use Rattle.std.specs.Prelude.{ℕ, Bool, true, false, List, [], ◌∷◌, filter}
use Rattle.am_labels.specs.declared.Label.{Label}
use Rattle.am_item.specs.declared.item.Item.{Item}
use Rattle.am_item.specs.declared.silence.SilenceDetails.{SilenceDetails}
use Rattle.am_item.specs.declared.stamp.Stamped.{Stamped}
use Rattle.am_config.specs.Configuration.{Configuration}
use Rattle.am_config.specs.declared.parts.Rule.{Rule}
use Rattle.am_silence.specs.Held.{SilenceValue, all_held}
use Rattle.am_silence.specs.Silences.{is_active}
use Rattle.am_muting.specs.Muting.{firing_sets}

-- those silences that are active at the moment, of what is held under identifiers
abbrev pub active_in : ℕ → List (List ℕ × Stamped SilenceDetails) → List SilenceValue
active_in moment entries = filter (λ s. is_active moment s.details.starts_at s.details.ends_at) (all_held entries)

-- the label sets of alerts that may inhibit others by these rules
abbrev pub sources_by : List Rule → List (List Label) → List (List Label)
sources_by [] sets = []
sources_by (rule ∷ rules) sets = sets

-- the same by a configuration: all that fire, unless it has no rule
abbrev pub sources_of : Configuration → ℕ → List Item → List (List Label)
sources_of c moment held = sources_by c.rules (firing_sets moment held)

-- those label sets whose flag is true
abbrev pub chosen : List Bool → List (List Label) → List (List Label)
chosen (true ∷ flags) (set ∷ sets) = set ∷ chosen flags sets
chosen (false ∷ flags) (set ∷ sets) = chosen flags sets
chosen [] sets = []
chosen (flag ∷ flags) [] = []
