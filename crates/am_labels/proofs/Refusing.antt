-- Which refusal pairs of names and values meet, by the tests, and what they make without one.
use Rattle.std.proofs.Common.{◌≡◌, ℕ, Bool, true, false, not, List, filter, Ok, Err, refl, sym, ap, ◌∙◌, if◌then◌else◌}
use Rattle.std.specs.List.Sorted.{IsPermutation, IsStrictlySortedBy}
use Rattle.std.proofs.lemmas.List.Sorted.{IsPermutation-refl}
use Rattle.am_text.specs.declared.failure.Failure.{Failure}
use Rattle.am_text.specs.declared.failure.Failure.TheVariants.{Refused, OutOfMemory}
use Rattle.am_text.specs.Outcome.{Fails}
use Rattle.am_labels.specs.declared.Label.{Label}
use Rattle.am_labels.specs.declared.LabelRefusal.{LabelRefusal}
use Rattle.am_labels.specs.declared.LabelRefusal.TheVariants.{BadName, Repeated}
use Rattle.am_labels.specs.Labels.{are_label_names, has_value, name_cmp, repeats}
use Rattle.am_labels.specs.Sets.{annotations, in_order, label_set, value_of}
use Rattle.am_labels.proofs.InOrder.{filter-in_order, in_order-IsPermutation}
use Rattle.am_labels.proofs.Values.{no_repeats_from_rising, repeats-filter, value_of-filter, value_of-in_order}

-- a name is no label name
pub annotations-bad_name : (pairs : List Label) → are_label_names pairs ≡ false → annotations pairs ≡ Err BadName
unfolding annotations
annotations-bad_name pairs h = rw h refl

-- a name is given twice
pub annotations-repeated : (pairs : List Label) → are_label_names pairs ≡ true → repeats pairs ≡ true → annotations pairs ≡ Err Repeated
unfolding annotations
annotations-repeated pairs h r = rw (h, r) refl

-- neither
pub annotations-ok : (pairs : List Label) → are_label_names pairs ≡ true → repeats pairs ≡ false → annotations pairs ≡ Ok (in_order pairs)
unfolding annotations
annotations-ok pairs h r = rw (h, r) refl

-- pairs whose names rise once they are sorted
pub annotations-sorted : (pairs sorted : List Label) → are_label_names pairs ≡ true → IsPermutation pairs sorted → IsStrictlySortedBy name_cmp sorted → annotations pairs ≡ Ok sorted
annotations-sorted pairs sorted h p rising =
    annotations-ok pairs h (no_repeats_from_rising pairs sorted p rising)
    ∙ ap (λ (labels : List Label). Ok labels) (sym (in_order-IsPermutation pairs sorted p rising))

-- pairs whose names rise as they come
pub annotations-rising : (pairs : List Label) → are_label_names pairs ≡ true → IsStrictlySortedBy name_cmp pairs → annotations pairs ≡ Ok pairs
annotations-rising pairs h rising = annotations-sorted pairs pairs h (IsPermutation-refl pairs) rising

-- the tests of pairs that are not refused
unless_refused-ok : (named twice : Bool) (labels found : List Label) →
    (if not named then Err BadName else (if twice then Err Repeated else Ok labels)) ≡ Ok found →
    (named ≡ true) × (twice ≡ false) × (labels ≡ found)
unless_refused-ok false twice labels found e = absurd (cc)
unless_refused-ok true true labels found e = absurd (cc)
unless_refused-ok true false labels found e = (refl, refl, cc)

-- pairs that make annotations give no name twice, and the annotations are the pairs in order
pub made_of : (pairs found : List Label) → annotations pairs ≡ Ok found → (are_label_names pairs ≡ true) × (repeats pairs ≡ false) × (in_order pairs ≡ found)
unfolding annotations
made_of pairs found e = unless_refused-ok (are_label_names pairs) (repeats pairs) (in_order pairs) found e

-- they make a label set, of those that have a value
pub label_set_of : (pairs found : List Label) → annotations pairs ≡ Ok found → label_set pairs ≡ Ok (filter has_value found)
unfolding label_set
label_set_of pairs found e =
    let made = made_of pairs found e in
    rw (made.0, made.1, ← made.2, filter-in_order has_value pairs) refl

-- what refuses pairs as annotations refuses them as a label set
unless_refused-err : (named twice : Bool) (labels others : List Label) (refusal : LabelRefusal) →
    (if not named then Err BadName else (if twice then Err Repeated else Ok labels)) ≡ Err refusal →
    (if not named then Err BadName else (if twice then Err Repeated else Ok others)) ≡ Err refusal
unless_refused-err false twice labels others refusal e = cc
unless_refused-err true true labels others refusal e = cc
unless_refused-err true false labels others refusal e = absurd (cc)

pub fails-label_set : (pairs : List Label) (failure : Failure LabelRefusal) → Fails failure (annotations pairs) → Fails failure (label_set pairs)
unfolding annotations label_set
fails-label_set pairs (Refused refusal) h = unless_refused-err (are_label_names pairs) (repeats pairs) _ _ refusal h
fails-label_set pairs OutOfMemory h = tt

-- annotations give a name what the pairs give
pub value_of-annotations : (pairs found : List Label) → annotations pairs ≡ Ok found → (name : List ℕ) → value_of name found ≡ value_of name pairs
value_of-annotations pairs found e name =
    let made = made_of pairs found e in
    ap (value_of name) (sym made.2) ∙ value_of-in_order name pairs made.1

-- and so does a label set
pub value_of-label_set : (pairs found : List Label) → annotations pairs ≡ Ok found → (name : List ℕ) → value_of name (filter has_value found) ≡ value_of name pairs
value_of-label_set pairs found e name =
    let made = made_of pairs found e in
    ap (λ labels. value_of name (filter has_value labels)) (sym made.2)
    ∙ ap (value_of name) (filter-in_order has_value pairs)
    ∙ value_of-in_order name (filter has_value pairs) (repeats-filter has_value pairs made.1)
    ∙ value_of-filter name pairs made.1
