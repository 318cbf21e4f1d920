-- What is spelled is read again: labels and label sets.
use Rattle.std.proofs.Common.{◌≡◌, ℕ, ◌<◌, ◌≤◌, ◌^◌, Bool, true, false, ◌||◌, List, [], ◌∷◌, ◌++◌, length, Option, Some, None, Ok, All, refl, ap, ◌∙◌, append_assoc, length-append, arith}
use Rattle.std.specs.List.{flat_map, list_all, AllByRecursion}
use Rattle.std.specs.List.Sorted.{IsStrictlySortedBy}
use Rattle.std.specs.Ordering.{is_lt}
use Rattle.std.specs.declared.cmp.Ordering.{Ordering}
use Rattle.std.specs.declared.cmp.Ordering.TheVariants.{Less}
use Rattle.std.proofs.lemmas.List.Elements.{All-head, All-tail}
use Rattle.am_labels.specs.declared.Label.{Label}
use Rattle.am_labels.specs.Labels.{are_label_names, has_value, is_label_name, labels_cmp, name_cmp}
use Rattle.am_wire.specs.Fields.{Chain, Rises, number_bytes, rises, text_bytes}
use Rattle.am_wire.specs.LabelFields.{AreSetFields, HasTexts, IsAnnotationsField, IsLabelAfter, IsSetAfter, IsSetField, label_at, label_bytes, label_set_at, label_sets_at, label_sets_bytes, labels_at, labels_bytes, name_at, value_at}
use Rattle.am_wire.proofs.FieldsAgain.{length-several, number_again, several_again, text_again}
use Rattle.am_wire.proofs.Framed.{length-number_bytes}
use Rattle.am_wire.proofs.Rising.{both_true}

-- the test of what rises
rises_where : {A : Type 0} (cmp : A → A → Ordering) (before : Option A) (x : A) → Rises cmp before x → rises cmp before x ≡ true
rises_where cmp None x rising = refl
rises_where cmp (Some y) x rising = rw rising refl

name_rises_where : (before : Option Label) (label : Label) → Rises name_cmp before label → rises name_cmp before (record { name = label.name; value = label.name }) ≡ true
name_rises_where None label rising = refl
name_rises_where (Some y) label rising = ap is_lt rising

label_again : (e : Bool) (before : Option Label) (label : Label) (rest : List ℕ) → IsLabelAfter e before label → length (label_bytes label) < 2 ^ 32 →
    label_at e before (label_bytes label ++ rest) ≡ Ok (label, rest)
unfolding label_at label_bytes name_at value_at
label_again e before label rest is short =
    let sum = length-append (text_bytes label.name) (text_bytes label.value) in
    let name = text_again label.name (text_bytes label.value ++ rest) is.texts.name (omega (arith, short, sum)) in
    let value = text_again label.value rest is.texts.value (omega (arith, short, sum)) in
    ap (label_at e before) (append_assoc (text_bytes label.name) (text_bytes label.value) rest)
    ∙ rw (name, is.named, name_rises_where before label is.rising, value, is.value) refl

pub labels_again : (e : Bool) (labels : List Label) (rest : List ℕ) → Chain (IsLabelAfter e) None labels → length labels < 2 ^ 16 →
    length (labels_bytes labels) < 2 ^ 32 → labels_at e (labels_bytes labels ++ rest) ≡ Ok (labels, rest)
unfolding labels_at labels_bytes
labels_again e labels rest chain few short =
    let sum = length-append (number_bytes 2 (length labels)) (flat_map label_bytes labels) in
    ap (labels_at e) (append_assoc (number_bytes 2 (length labels)) (flat_map label_bytes labels) rest)
    ∙ rw (number_again 2 (length labels) (flat_map label_bytes labels ++ rest) few)
    (several_again (label_at e) label_bytes (IsLabelAfter e) (label_again e) None labels rest chain (omega (arith, short, sum)))

-- a list in strict order, each with the one before it
Below : {A : Type 0} → (A → A → Ordering) → Option A → List A → Type 0
Below cmp None xs = Unit {0}
Below cmp (Some y) xs = AllByRecursion (λ x. cmp y x ≡ Less) xs

rises_first : {A : Type 0} (cmp : A → A → Ordering) (before : Option A) (x : A) (xs : List A) → Below cmp before (x ∷ xs) → Rises cmp before x
unfolding Below
rises_first cmp None x xs below = tt
rises_first cmp (Some y) x xs below = below.0

labels_chain : (e : Bool) (before : Option Label) (labels : List Label) → Below name_cmp before labels → IsStrictlySortedBy name_cmp labels →
    are_label_names labels ≡ true → list_all (λ label. e || has_value label) labels ≡ true → All HasTexts labels → Chain (IsLabelAfter e) before labels
unfolding IsStrictlySortedBy Below
labels_chain e before [] below rising named valued texts = tt
labels_chain e before (x ∷ xs) below rising named valued texts =
    let names = both_true (is_label_name x.name) (are_label_names xs) named in
    let values = both_true (e || has_value x) (list_all (λ label. e || has_value label) xs) valued in (
      record { named = names.0; rising = rises_first name_cmp before x xs below; value = values.0; texts = All-head HasTexts x xs texts },
      labels_chain e (Some x) xs rising.0 rising.1 names.1 values.1 (All-tail HasTexts x xs texts),
    )

pub set_again : (labels : List Label) (rest : List ℕ) → IsSetField labels → length (labels_bytes labels) < 2 ^ 32 →
    labels_at false (labels_bytes labels ++ rest) ≡ Ok (labels, rest)
unfolding Below
set_again labels rest is short =
    labels_again false labels rest (labels_chain false None labels tt is.set.rising is.set.names is.set.values is.texts) is.few short

all_may_be_empty : (labels : List Label) → list_all (λ label. true || has_value label) labels ≡ true
all_may_be_empty [] = refl
all_may_be_empty (x ∷ xs) = all_may_be_empty xs

pub annotations_again : (labels : List Label) (rest : List ℕ) → IsAnnotationsField labels → length (labels_bytes labels) < 2 ^ 32 →
    labels_at true (labels_bytes labels ++ rest) ≡ Ok (labels, rest)
unfolding Below
annotations_again labels rest is short =
    labels_again true labels rest (labels_chain true None labels tt is.set.rising is.set.names (all_may_be_empty labels) is.texts) is.few short

label_set_again : (before : Option (List Label)) (labels : List Label) (rest : List ℕ) → IsSetAfter before labels → length (labels_bytes labels) < 2 ^ 32 →
    label_set_at before (labels_bytes labels ++ rest) ≡ Ok (labels, rest)
unfolding label_set_at
label_set_again before labels rest is short =
    rw (set_again labels rest is.set short, rises_where labels_cmp before labels is.rising) refl

sets_chain : (before : Option (List Label)) (sets : List (List Label)) → Below labels_cmp before sets → IsStrictlySortedBy labels_cmp sets →
    All IsSetField sets → Chain IsSetAfter before sets
unfolding IsStrictlySortedBy Below
sets_chain before [] below rising each = tt
sets_chain before (x ∷ xs) below rising each = (
  record { set = All-head IsSetField x xs each; rising = rises_first labels_cmp before x xs below },
  sets_chain (Some x) xs rising.0 rising.1 (All-tail IsSetField x xs each),
)

-- labels take two bytes at least
some_labels : (labels : List Label) → 1 ≤ length (labels_bytes labels)
unfolding labels_bytes
some_labels labels =
    omega (arith, length-append (number_bytes 2 (length labels)) (flat_map label_bytes labels), length-number_bytes 2 (length labels))

pub label_sets_again : (sets : List (List Label)) (rest : List ℕ) → AreSetFields sets → length (label_sets_bytes sets) < 2 ^ 32 →
    label_sets_at (label_sets_bytes sets ++ rest) ≡ Ok (sets, rest)
unfolding label_sets_at label_sets_bytes Below
label_sets_again sets rest are short =
    let sum = length-append (number_bytes 4 (length sets)) (flat_map labels_bytes sets) in
    let count : length sets < 2 ^ 32 = omega (arith, short, sum, length-several labels_bytes some_labels sets) in
    ap label_sets_at (append_assoc (number_bytes 4 (length sets)) (flat_map labels_bytes sets) rest)
    ∙ rw (number_again 4 (length sets) (flat_map labels_bytes sets ++ rest) count)
    (several_again label_set_at labels_bytes IsSetAfter label_set_again None sets rest (sets_chain None sets tt are.rising are.each) (omega (arith, short, sum)))
