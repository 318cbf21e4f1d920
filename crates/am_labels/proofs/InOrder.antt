-- Labels in order: what a sort gives, and the value that labels give to a name.
use Rattle.std.proofs.Common.{◌≡◌, ℕ, ◌+◌, Bool, true, false, ◌||◌, ◌&&◌, List, [], ◌∷◌, Ordering, Less, Equal, Greater, refl, sym, ap, ◌∙◌, arith, if◌then◌else◌}
use Rattle.std.specs.Cmp.{IsTotalOrder, on_total}
use Rattle.std.specs.Cmp.Lexicographic.{slice_cmp, nat_list_cmp_total}
use Rattle.std.specs.List.{list_any, filter, AllByRecursion, IsAllAdjacentAnswer}
use Rattle.std.specs.List.Sorted.{IsStrictlySortedBy, IsPermutation}
use Rattle.std.specs.Ordering.{nat_cmp, is_eq, is_lt, ordering_then}
use Rattle.std.proofs.lemmas.Bool.{false≢true}
use Rattle.std.proofs.lemmas.List.Kept.{IsStrictlySortedBy-filter}
use Rattle.std.proofs.lemmas.List.Sorted.{list_any-IsPermutation, IsPermutation-refl}
use Rattle.std.proofs.lemmas.Map.Keys.{sorted_from_all_adjacent, Less-from_sorted}
use Rattle.std.proofs.lemmas.Map.Lookups.{exact_bytes}
use Rattle.am_labels.specs.declared.Label.{Label}
use Rattle.am_labels.specs.Labels.{name_cmp, label_cmp, labels_cmp, label_total}
use Rattle.am_labels.specs.Sets.{in_order}
use Rattle.am_labels.proofs.Ordered.{sorted_inserted, list_any-insert_key, eq_from_elements}

-- one comparison after another answers `Equal` where both do
both_equal : (o p : Ordering) → ordering_then o p ≡ Equal → (o ≡ Equal) × (p ≡ Equal)
both_equal Less p h = absurd (cc)
both_equal Equal p h = (refl, h)
both_equal Greater p h = absurd (cc)

-- the label of a name and a value
abbrev pub label_of : List ℕ → List ℕ → Label
label_of name value = record { name = name; value = value }

-- labels that compare `Equal` are equal
pub label_exact : (a b : Label) → label_cmp a b ≡ Equal → a ≡ b
label_exact a b h =
    let parts = both_equal (slice_cmp nat_cmp a.name b.name) (slice_cmp nat_cmp a.value b.value) h in
    ap (λ (name : List ℕ). label_of name a.value) (exact_bytes a.name b.name parts.0) ∙ ap (λ (value : List ℕ). label_of b.name value) (exact_bytes a.value b.value parts.1)

-- lists of labels that compare `Equal` are equal
pub labels_exact : (a b : List Label) → labels_cmp a b ≡ Equal → a ≡ b
unfolding labels_cmp
labels_exact [] [] h = refl
labels_exact [] (y ∷ ys) h = absurd (cc)
labels_exact (x ∷ xs) [] h = absurd (cc)
labels_exact (x ∷ xs) (y ∷ ys) h =
    let parts = both_equal (label_cmp x y) (slice_cmp label_cmp xs ys) h in
    ap (λ (z : Label). z ∷ xs) (label_exact x y parts.0) ∙ ap (λ (zs : List Label). y ∷ zs) (labels_exact xs ys parts.1)

-- the order of names is an order
pub name_total : IsTotalOrder name_cmp
name_total = on_total (λ (l : Label). l.name) nat_list_cmp_total

-- each list of labels is in strict order once each is placed in order
pub sorted-in_order : (labels : List Label) → IsStrictlySortedBy label_cmp (in_order labels)
sorted-in_order [] = unfold IsStrictlySortedBy in tt
sorted-in_order (label ∷ labels) = sorted_inserted label_cmp label_total label_exact (in_order labels) label (sorted-in_order labels)

-- and has the same elements
pub list_any-in_order : (test : Label → Bool) (labels : List Label) → list_any test (in_order labels) ≡ list_any test labels
list_any-in_order test [] = refl
list_any-in_order test (label ∷ labels) = list_any-insert_key label_cmp label_total label_exact test (in_order labels) label ∙ ap (λ b. test label || b) (list_any-in_order test labels)

-- a strict order by name is one of labels
pub sorted_from_names : (labels : List Label) → IsStrictlySortedBy name_cmp labels → IsStrictlySortedBy label_cmp labels
unfolding IsStrictlySortedBy
sorted_from_names [] s = s
sorted_from_names (label ∷ labels) s = (heads label labels s.0, sorted_from_names labels s.1)
  where
    heads : (label : Label) (labels : List Label) → AllByRecursion (λ other. name_cmp label other ≡ Less) labels → AllByRecursion (λ other. label_cmp label other ≡ Less) labels
    heads label [] h = h
    heads label (other ∷ labels) h = (rw h.0 refl, heads label labels h.1)

-- labels that a permutation brings into a strict order by name are then in order
pub in_order-IsPermutation : (xs ys : List Label) → IsPermutation xs ys → IsStrictlySortedBy name_cmp ys → ys ≡ in_order xs
in_order-IsPermutation xs ys p s = eq_from_elements label_cmp label_total label_exact ys (in_order xs) (sorted_from_names ys s) (sorted-in_order xs) (λ q. sym (list_any-IsPermutation (λ y. is_eq (label_cmp q y)) xs ys p) ∙ sym (list_any-in_order (λ y. is_eq (label_cmp q y)) xs))

-- labels in strict order by name are in order
pub in_order-rising : (labels : List Label) → IsStrictlySortedBy name_cmp labels → in_order labels ≡ labels
in_order-rising labels s = sym (in_order-IsPermutation labels labels (IsPermutation-refl labels) s)

-- what a filter leaves has the elements that pass it
list_any-filter : (test keep : Label → Bool) (labels : List Label) → list_any test (filter keep labels) ≡ list_any (λ label. keep label && test label) labels
list_any-filter test keep [] = refl
list_any-filter test keep (label ∷ labels) = elim (keep label) as (λ q. list_any test (if q then label ∷ filter keep labels else filter keep labels) ≡ ((q && test label) || list_any (λ other. keep other && test other) labels)) [
  | true ↦ ap (λ b. test label || b) (list_any-filter test keep labels)
  | false ↦ list_any-filter test keep labels
]

-- a filter of labels in order is the order of what the filter leaves
pub filter-in_order : (keep : Label → Bool) (labels : List Label) → filter keep (in_order labels) ≡ in_order (filter keep labels)
filter-in_order keep labels = eq_from_elements label_cmp label_total label_exact _ _ (IsStrictlySortedBy-filter label_cmp keep (in_order labels) (sorted-in_order labels)) (sorted-in_order (filter keep labels)) (λ q.
    list_any-filter (λ y. is_eq (label_cmp q y)) keep (in_order labels)
    ∙ list_any-in_order (λ label. keep label && is_eq (label_cmp q label)) labels
    ∙ sym (list_any-filter (λ y. is_eq (label_cmp q y)) keep labels)
    ∙ sym (list_any-in_order (λ y. is_eq (label_cmp q y)) (filter keep labels)))

-- what is told of each name and the next tells whether the names rise strictly
pub rising_by_answer : (labels : List Label) (answer : Bool) → IsAllAdjacentAnswer (λ a b r. r ≡ is_lt (name_cmp a b)) labels answer → (answer ≡ true → IsStrictlySortedBy name_cmp labels) × (IsStrictlySortedBy name_cmp labels → answer ≡ true)
rising_by_answer labels true h = (λ _. sorted_from_all_adjacent name_total labels (label_of [] []) (λ k within. less_where _ (sym (h k (label_of [] []) within))), λ _. refl)
  where
    less_where : (o : Ordering) → is_lt o ≡ true → o ≡ Less
    less_where Less e = refl
    less_where Equal e = absurd (false≢true e)
    less_where Greater e = absurd (false≢true e)
rising_by_answer labels false (k, within, h) = (λ e. absurd (false≢true e), λ s. absurd (false≢true (h none ∙ ap is_lt (Less-from_sorted name_cmp labels k (k + 1) none s (omega arith) within))))
  where
    none : Label
    none = label_of [] []
