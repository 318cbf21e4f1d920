-- Which label sets have a label, and with which values.
use Rattle.std.specs.Prelude.{◌≡◌, ◌++◌, ◌∷◌, [], ℕ, ◌+◌, List, Option, filter, length, map}
use Rattle.std.specs.Borrow.{Bor}
use Rattle.std.specs.BTreeMap.{BTreeMap, get_by}
use Rattle.std.specs.Cmp.Lexicographic.{slice_cmp}
use Rattle.std.specs.Option.{option_map}
use Rattle.std.specs.Ordering.{nat_cmp}
use Rattle.std.specs.Str.{bytes_eq}
use Rattle.am_labels.specs.declared.Label.{Label}
use Rattle.am_table.specs.declared.holders.Holders.{Holders}

-- the labels of this name, each with the place of its label set
abbrev pub labels_named : ℕ → List ℕ → List Label → List (ℕ × List ℕ)
labels_named place name labels = map (λ label. (place, label.value)) (filter (λ label. bytes_eq name label.name) labels)

-- those of label sets, where the first has this place
abbrev pub holders_from : ℕ → List ℕ → List (List Label) → List (ℕ × List ℕ)
holders_from place name [] = []
holders_from place name (labels ∷ sets) = labels_named place name labels ++ holders_from (place + 1) name sets

-- what is kept of holders: their places, and behind the empty value theirs
abbrev pub Shown : Type 0
Shown = List ℕ × List (List ℕ)

abbrev pub none_hold : Shown
none_hold = ([], [] ∷ [])

abbrev pub with_holders : List (ℕ × List ℕ) → Shown → Shown
with_holders holders shown = (shown.0 ++ map (λ h. h.0) holders, shown.1 ++ map (λ h. h.1) holders)

abbrev pub shown_of : Holders → Shown
shown_of held = (held.places.items, map (λ value. value.now) held.values.items)

-- these are the label sets that have a label
abbrev pub AreHolders : List (ℕ × List ℕ) → Holders → Type 0
AreHolders holders held = shown_of held ≡ with_holders holders none_hold

-- what is kept under a name
abbrev pub held_at : BTreeMap (Bor (List ℕ)) Holders → List ℕ → Option Shown
held_at held name = option_map shown_of (get_by (λ key. slice_cmp nat_cmp name key.now) held)

-- there is a value for each place, behind the empty one
abbrev pub IsWhole : Shown → Type 0
IsWhole shown = length shown.1 ≡ length shown.0 + 1
