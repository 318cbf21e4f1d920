-- Label sets and annotations: finite maps from label names to texts, as lists in order of name; and why pairs make none.
use Rattle.std.specs.Prelude.{◌≡◌, ℕ, true, not, List, [], ◌∷◌, Result, Ok, Err, filter, find, if◌then◌else◌, codes}
use Rattle.std.specs.BTreeSet.{insert_key}
use Rattle.std.specs.List.{list_all}
use Rattle.std.specs.List.Sorted.{IsStrictlySortedBy}
use Rattle.std.specs.Option.{option_map_or}
use Rattle.std.specs.Str.{bytes_eq}
use Rattle.am_labels.specs.declared.Label.{Label}
use Rattle.am_labels.specs.declared.LabelRefusal.{LabelRefusal}
use Rattle.am_labels.specs.declared.LabelRefusal.TheVariants.{BadName, Repeated}
use Rattle.am_labels.specs.Labels.{are_label_names, name_cmp, label_cmp, has_value, repeats}

-- the value that the labels give to a name, empty where they give none
unfoldable pub value_of : List ℕ → List Label → List ℕ
value_of name labels = option_map_or (λ label. label.value) (find (λ label. bytes_eq name label.name) labels) []

-- the labels in their order
abbrev pub in_order : List Label → List Label
in_order [] = []
in_order (label ∷ labels) = insert_key label_cmp (in_order labels) label

-- labels, unless the pairs are refused: for a name that is no label name, else for a name that is given twice
abbrev pub unless_refused : List Label → List Label → Result (List Label) LabelRefusal
unless_refused pairs labels =
    if not (are_label_names pairs) then Err BadName else (
    if repeats pairs then Err Repeated else Ok labels)

-- the label set that pairs of names and values make: those whose value isn't empty, in order of name
unfoldable pub label_set : List Label → Result (List Label) LabelRefusal
label_set pairs = unless_refused pairs (in_order (filter has_value pairs))

-- the annotations that pairs of names and values make: all of them, in order of name
unfoldable pub annotations : List Label → Result (List Label) LabelRefusal
annotations pairs = unless_refused pairs (in_order pairs)

-- annotations: the names are label names and rise
pub record IsAnnotations (labels : List Label) : Type 0 where
  pub names : are_label_names labels ≡ true
  pub rising : IsStrictlySortedBy name_cmp labels

-- a label set: the names are label names and rise, and no value is empty
pub record IsLabelSet (labels : List Label) : Type 0 where
  pub names : are_label_names labels ≡ true
  pub rising : IsStrictlySortedBy name_cmp labels
  pub values : list_all has_value labels ≡ true

-- the code of a refusal
abbrev pub code_of : LabelRefusal → List ℕ
code_of BadName = codes "L1"
code_of Repeated = codes "L2"
