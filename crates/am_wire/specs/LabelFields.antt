-- Labels, and sets of label sets: how they are spelled, which may be, and how they are read.
use Rattle.std.specs.Prelude.{ℕ, ◌<◌, ◌^◌, Bool, false, ◌&&◌, ◌||◌, not, ◌==◌, All, List, ◌++◌, length, Option, None, Ok, Err, IsTrue, IsUtf8, if◌then◌else◌}
use Rattle.std.specs.List.{flat_map}
use Rattle.std.specs.List.Sorted.{IsStrictlySortedBy}
use Rattle.am_text.specs.Outcome.{◌>>=◌}
use Rattle.am_labels.specs.declared.Label.{Label}
use Rattle.am_labels.specs.Labels.{has_value, is_label_name, labels_cmp, name_cmp}
use Rattle.am_labels.specs.Sets.{IsAnnotations, IsLabelSet}
use Rattle.am_wire.specs.declared.refusal.WireRefusal.TheVariants.{BadValue}
use Rattle.am_wire.specs.Fields.{Reading, Rises, number_at, number_bytes, rises, several, text_at, text_bytes}

-- ---- as they are spelled

-- a name and a value
unfoldable pub label_bytes : Label → List ℕ
label_bytes label = text_bytes label.name ++ text_bytes label.value

-- labels behind their number
unfoldable pub labels_bytes : List Label → List ℕ
labels_bytes labels = number_bytes 2 (length labels) ++ flat_map label_bytes labels

-- label sets behind their number
unfoldable pub label_sets_bytes : List (List Label) → List ℕ
label_sets_bytes sets = number_bytes 4 (length sets) ++ flat_map labels_bytes sets

-- ---- which may be

-- name and value are texts
pub record HasTexts (label : Label) : Type 0 where
  pub name : IsUtf8 label.name
  pub value : IsUtf8 label.value

-- a label set of texts, whose number of labels fits 2 bytes
pub record IsSetField (labels : List Label) : Type 0 where
  pub set : IsLabelSet labels
  pub texts : All HasTexts labels
  pub few : length labels < 2 ^ 16

-- the same of annotations
pub record IsAnnotationsField (labels : List Label) : Type 0 where
  pub set : IsAnnotations labels
  pub texts : All HasTexts labels
  pub few : length labels < 2 ^ 16

-- label sets, each greater than the one before it
pub record AreSetFields (sets : List (List Label)) : Type 0 where
  pub each : All IsSetField sets
  pub rising : IsStrictlySortedBy labels_cmp sets

-- ---- as they are read

-- a name, greater than that of the label before it
unfoldable pub name_at : Option Label → List ℕ → Reading (List ℕ)
name_at before bytes = do
  (name, rest) ← text_at bytes
  if is_label_name name && rises name_cmp before (record { name = name; value = name }) then Ok (name, rest) else Err BadValue

-- a value, which may be empty or not
unfoldable pub value_at : Bool → List ℕ → Reading (List ℕ)
value_at may_be_empty bytes = do
  (value, rest) ← text_at bytes
  if may_be_empty || not (length value == 0) then Ok (value, rest) else Err BadValue

unfoldable pub label_at : Bool → Option Label → List ℕ → Reading Label
label_at may_be_empty before bytes = do
  (name, behind) ← name_at before bytes
  (value, rest) ← value_at may_be_empty behind
  Ok (record { name = name; value = value }, rest)

unfoldable pub labels_at : Bool → List ℕ → Reading (List Label)
labels_at may_be_empty bytes = do
  (n, behind) ← number_at 2 bytes
  several (label_at may_be_empty) n None behind

-- a label set, greater than the one before it
unfoldable pub label_set_at : Option (List Label) → List ℕ → Reading (List Label)
label_set_at before bytes = do
  (labels, rest) ← labels_at false bytes
  if rises labels_cmp before labels then Ok (labels, rest) else Err BadValue

unfoldable pub label_sets_at : List ℕ → Reading (List (List Label))
label_sets_at bytes = do
  (n, behind) ← number_at 4 bytes
  several label_set_at n None behind

-- what is so of a label that was read behind another
pub record IsLabelAfter (may_be_empty : Bool) (before : Option Label) (label : Label) : Type 0 where
  pub named : IsTrue (is_label_name label.name)
  pub rising : Rises name_cmp before label
  pub value : IsTrue (may_be_empty || has_value label)
  pub texts : HasTexts label

-- and of a label set that was read behind another
pub record IsSetAfter (before : Option (List Label)) (labels : List Label) : Type 0 where
  pub set : IsSetField labels
  pub rising : Rises labels_cmp before labels
