-- Labels as one text, by which they are compared.
use Rattle.std.specs.Prelude.{ℕ, Bool, not, ◌==◌, ◌&&◌, List, [], ◌∷◌, ◌++◌, Option, Some, None, if◌then◌else◌}
use Rattle.std.specs.List.{list_all}
use Rattle.am_labels.specs.declared.Label.{Label}

-- a text without the byte 0
abbrev pub is_plain : List ℕ → Bool
is_plain text = list_all (λ byte. not (byte == 0)) text

-- all names and values are such texts
abbrev pub are_plain : List Label → Bool
are_plain labels = list_all (λ (label : Label). is_plain label.name && is_plain label.value) labels

-- a text with the byte 0 behind it
abbrev pub ended : List ℕ → List ℕ
ended text = text ++ 0 ∷ []

-- the names and values in their order, each ended
abbrev pub flat : List Label → List ℕ
flat [] = []
flat (label ∷ labels) = ended label.name ++ (ended label.value ++ flat labels)

-- the text that stands for the labels in comparisons, where it tells them apart
unfoldable pub flat_text : List Label → Option (List ℕ)
flat_text labels = if are_plain labels then Some (flat labels) else None
