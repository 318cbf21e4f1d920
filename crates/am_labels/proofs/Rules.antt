-- The rules of label sets and annotations, through a permutation and a filter.
use Rattle.std.proofs.Common.{◌≡◌, Bool, true, false, not, ◌||◌, ◌&&◌, List, [], ◌∷◌, refl, sym, ap, ◌∙◌, if◌then◌else◌}
use Rattle.std.specs.List.{list_any, list_all, filter}
use Rattle.std.specs.List.Sorted.{IsPermutation}
use Rattle.std.proofs.lemmas.Bool.{and_parts, and_from}
use Rattle.std.proofs.lemmas.List.Kept.{IsStrictlySortedBy-filter}
use Rattle.std.proofs.lemmas.List.Sorted.{list_any-IsPermutation}
use Rattle.am_labels.specs.declared.Label.{Label}
use Rattle.am_labels.specs.Labels.{is_label_name, name_cmp, has_value}
use Rattle.am_labels.specs.Sets.{IsLabelSet, IsAnnotations}

-- all pass where none fails
list_all-none : (test : Label → Bool) (labels : List Label) → list_all test labels ≡ not (list_any (λ label. not (test label)) labels)
list_all-none test [] = refl
list_all-none test (label ∷ labels) = elim (test label) as (λ q. (q && list_all test labels) ≡ not (not q || list_any (λ other. not (test other)) labels)) [ true ↦ list_all-none test labels | false ↦ refl ]

-- a list and its permutation pass a test alike
pub list_all-IsPermutation : (test : Label → Bool) (xs ys : List Label) → IsPermutation xs ys → list_all test xs ≡ list_all test ys
list_all-IsPermutation test xs ys p = list_all-none test xs ∙ ap not (list_any-IsPermutation (λ label. not (test label)) xs ys p) ∙ sym (list_all-none test ys)

-- what a filter leaves passes what all passed
list_all-filter : (test keep : Label → Bool) (labels : List Label) → list_all test labels ≡ true → list_all test (filter keep labels) ≡ true
list_all-filter test keep [] h = refl
list_all-filter test keep (label ∷ labels) h =
    let parts = and_parts (test label) (list_all test labels) h in
    elim (keep label) as (λ q. list_all test (if q then label ∷ filter keep labels else filter keep labels) ≡ true) [
      | true ↦ and_from _ _ parts.0 (list_all-filter test keep labels parts.1)
      | false ↦ list_all-filter test keep labels parts.1
    ]

-- what a filter leaves passes the filter
list_all-kept : (keep : Label → Bool) (labels : List Label) → list_all keep (filter keep labels) ≡ true
list_all-kept keep [] = refl
list_all-kept keep (label ∷ labels) = elim (keep label) as (λ q. keep label ≡ q → list_all keep (if q then label ∷ filter keep labels else filter keep labels) ≡ true) [
  | true ↦ λ e. and_from _ _ e (list_all-kept keep labels)
  | false ↦ λ e. list_all-kept keep labels
] refl

-- annotations without the empty ones are a label set
pub set_from_annotations : (labels : List Label) → IsAnnotations labels → IsLabelSet (filter has_value labels)
set_from_annotations labels h = record {
  names = list_all-filter (λ label. is_label_name label.name) has_value labels h.names;
  rising = IsStrictlySortedBy-filter name_cmp has_value labels h.rising;
  values = list_all-kept has_value labels;
}
