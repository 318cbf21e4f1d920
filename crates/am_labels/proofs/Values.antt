-- Names that are given once, and the value that labels give to a name.
use Rattle.std.proofs.Common.{◌≡◌, ◌==◌, ℕ, ◌+◌, Bool, true, false, not, List, [], ◌∷◌, length, get_or, Less, Equal, Greater, refl, sym, ap, ◌∙◌, arith, if◌then◌else◌, Some, find}
use Rattle.std.specs.Cmp.Lexicographic.{slice_cmp, nat_list_eq_equiv}
use Rattle.std.specs.List.{filter, AllByRecursion, IsDistinct}
use Rattle.std.specs.List.Sorted.{IsStrictlySortedBy, IsSorted, IsPermutation}
use Rattle.std.specs.Ordering.{nat_cmp, is_eq, is_lt, eq_by_cmp, ordering_then, ordering_reverse, match_ordering}
use Rattle.std.specs.Option.{option_map_or}
use Rattle.std.specs.BTreeSet.{insert_key}
use Rattle.std.specs.Str.{bytes_eq}
use Rattle.std.proofs.lemmas.Bool.{true≢false, or_parts, or_from}
use Rattle.std.proofs.lemmas.Bool.Decides.{nat_tests}
use Rattle.std.proofs.lemmas.List.Sorted.{IsPermutation-sym}
use Rattle.std.proofs.lemmas.Map.Keys.{IsDistinct-IsPermutation, IsDistinct-from_sorted, sorted_from_all_adjacent, apart_from_distinct}
use Rattle.std.proofs.lemmas.Map.Text.{is_eq-slice_cmp}
use Rattle.std.proofs.lemmas.Slice.Eq.{bytes_eq-Decides}
use Rattle.am_labels.specs.declared.Label.{Label}
use Rattle.am_labels.specs.Labels.{name_cmp, label_cmp, has_value, has_name, repeats}
use Rattle.am_labels.specs.Sets.{value_of, in_order}
use Rattle.am_labels.proofs.InOrder.{name_total, label_of, label_exact, list_any-in_order}

-- two labels of one name
abbrev pub twins : Label → Label → Bool
twins a b = bytes_eq a.name b.name

twins-sym : (a b : Label) → twins a b ≡ twins b a
twins-sym a b = nat_list_eq_equiv.symm a.name b.name

-- no label has the name where none is a twin
apart_from_names : (label : Label) (labels : List Label) → has_name label.name labels ≡ false → AllByRecursion (λ other. twins label other ≡ false) labels
apart_from_names label [] h = tt
apart_from_names label (other ∷ labels) h = let parts = or_parts _ _ h in (parts.0, apart_from_names label labels parts.1)

names_from_apart : (label : Label) (labels : List Label) → AllByRecursion (λ other. twins label other ≡ false) labels → has_name label.name labels ≡ false
names_from_apart label [] h = refl
names_from_apart label (other ∷ labels) h = or_from _ _ h.0 (names_from_apart label labels h.1)

-- no name is given twice exactly where no two labels are twins
pub distinct_from_names : (labels : List Label) → repeats labels ≡ false → IsDistinct twins labels
unfolding IsDistinct
distinct_from_names [] h = tt
distinct_from_names (label ∷ labels) h = let parts = or_parts _ _ h in (apart_from_names label labels parts.0, distinct_from_names labels parts.1)

pub names_from_distinct : (labels : List Label) → IsDistinct twins labels → repeats labels ≡ false
unfolding IsDistinct
names_from_distinct [] h = refl
names_from_distinct (label ∷ labels) h = or_from _ _ (names_from_apart label labels h.0) (names_from_distinct labels h.1)

-- labels whose names rise strictly have no twins
distinct_from_rising : (labels : List Label) → IsDistinct (eq_by_cmp name_cmp) labels → IsDistinct twins labels
unfolding IsDistinct
distinct_from_rising [] h = h
distinct_from_rising (label ∷ labels) h = (heads label labels h.0, distinct_from_rising labels h.1)
  where
    heads : (label : Label) (labels : List Label) → AllByRecursion (λ other. eq_by_cmp name_cmp label other ≡ false) labels → AllByRecursion (λ other. twins label other ≡ false) labels
    heads label [] h = h
    heads label (other ∷ labels) h = (sym (is_eq-slice_cmp label.name other.name) ∙ h.0, heads label labels h.1)

-- pairs that a permutation brings into a strict order by name give no name twice
pub no_repeats_from_rising : (xs ys : List Label) → IsPermutation xs ys → IsStrictlySortedBy name_cmp ys → repeats xs ≡ false
no_repeats_from_rising xs ys p s = names_from_distinct xs (IsDistinct-IsPermutation twins twins-sym ys xs (IsPermutation-sym xs ys p) (distinct_from_rising ys (IsDistinct-from_sorted name_cmp ys s)))

-- pairs that give no name twice, once sorted, are in strict order by name
pub rising_from_sort : (xs ys : List Label) → IsPermutation xs ys → IsSorted label_cmp ys → repeats xs ≡ false → IsStrictlySortedBy name_cmp ys
rising_from_sort xs ys p s h =
    let distinct = IsDistinct-IsPermutation twins twins-sym xs ys p (distinct_from_names xs h) in
    let none : Label = label_of [] [] in
    sorted_from_all_adjacent name_total ys none (λ k within. next (get_or ys k none) (get_or ys (k + 1) none) (s k none (omega arith) within) (apart_from_distinct twins ys k (k + 1) none distinct (omega arith) within))
  where
    next : (a b : Label) → is_lt (label_cmp b a) ≡ false → twins a b ≡ false → name_cmp a b ≡ Less
    next a b up apart = elim (name_cmp a b) as (λ o. name_cmp a b ≡ o → o ≡ Less) [
      | Less ↦ λ e. refl
      | Equal ↦ λ e. absurd (true≢false (ap is_eq (sym e) ∙ is_eq-slice_cmp a.name b.name ∙ apart))
      | Greater ↦ λ e. absurd (true≢false (sym (ap (λ o. is_lt (ordering_then o (slice_cmp nat_cmp b.value a.value))) (name_total.antisymm b a ∙ ap ordering_reverse e)) ∙ up))
    ] refl

-- the value in labels that begin with this one
pub value_of-cons : (name : List ℕ) (label : Label) (labels : List Label) → value_of name (label ∷ labels) ≡ (if bytes_eq name label.name then label.value else value_of name labels)
unfolding value_of
value_of-cons name label labels = elim (bytes_eq name label.name) as (λ q. option_map_or (λ (l : Label). l.value) (if q then Some label else find (λ l. bytes_eq name l.name) labels) [] ≡ (if q then label.value else value_of name labels)) [ true ↦ refl | false ↦ refl ]

-- labels without the name give it no value
pub value_of-absent : (name : List ℕ) (labels : List Label) → has_name name labels ≡ false → value_of name labels ≡ []
value_of-absent name [] h = unfold value_of in refl
value_of-absent name (label ∷ labels) h =
    let parts = or_parts (bytes_eq name label.name) (has_name name labels) h in
    rw (value_of-cons name label labels, parts.0) (value_of-absent name labels parts.1)

-- a name that another name is not
other_name : (name : List ℕ) (label other : Label) → twins label other ≡ false → bytes_eq name label.name ≡ true → bytes_eq name other.name ≡ false
other_name name label other h e = ap (λ (n : List ℕ). bytes_eq n other.name) ((bytes_eq-Decides name label.name).0 e) ∙ h

-- the value after a label with a name of its own is placed in order
value_of-insert_key : (name : List ℕ) (labels : List Label) (label : Label) → has_name label.name labels ≡ false → value_of name (insert_key label_cmp labels label) ≡ (if bytes_eq name label.name then label.value else value_of name labels)
value_of-insert_key name [] label h = value_of-cons name label []
value_of-insert_key name (first ∷ labels) label h =
    let parts = or_parts (twins label first) (has_name label.name labels) h in
    elim (label_cmp label first) as (λ o. label_cmp label first ≡ o → value_of name (match_ordering o (label ∷ first ∷ labels) (first ∷ labels) (first ∷ insert_key label_cmp labels label)) ≡ (if bytes_eq name label.name then label.value else value_of name (first ∷ labels))) [
      | Less ↦ λ e. value_of-cons name label (first ∷ labels)
      | Equal ↦ λ e. absurd (true≢false (sym (nat_list_eq_equiv.refl label.name) ∙ ap (λ (l : Label). twins label l) (label_exact label first e) ∙ parts.0))
      | Greater ↦ λ e.
          value_of-cons name first (insert_key label_cmp labels label)
          ∙ rw (value_of-insert_key name labels label parts.1, value_of-cons name first labels) (turned (bytes_eq name first.name) (bytes_eq name label.name) first.value label.value (value_of name labels) (other_name name label first parts.0))
    ] refl
  where
    turned : (a b : Bool) (x y z : List ℕ) → (b ≡ true → a ≡ false) → (if a then x else (if b then y else z)) ≡ (if b then y else (if a then x else z))
    turned true true x y z h = absurd (true≢false (h refl))
    turned true false x y z h = refl
    turned false true x y z h = refl
    turned false false x y z h = refl

-- pairs that give no name twice give each name one value in whatever order
pub value_of-in_order : (name : List ℕ) (labels : List Label) → repeats labels ≡ false → value_of name (in_order labels) ≡ value_of name labels
value_of-in_order name [] h = refl
value_of-in_order name (label ∷ labels) h =
    let parts = or_parts (has_name label.name labels) (repeats labels) h in
    value_of-insert_key name (in_order labels) label (list_any-in_order (λ other. bytes_eq label.name other.name) labels ∙ parts.0)
    ∙ rw (value_of-in_order name labels parts.1) (sym (value_of-cons name label labels))

-- a name that isn't given isn't given by what a filter leaves
has_name-filter : (name : List ℕ) (keep : Label → Bool) (labels : List Label) → has_name name labels ≡ false → has_name name (filter keep labels) ≡ false
has_name-filter name keep [] h = refl
has_name-filter name keep (label ∷ labels) h =
    let parts = or_parts (bytes_eq name label.name) (has_name name labels) h in
    elim (keep label) as (λ q. has_name name (if q then label ∷ filter keep labels else filter keep labels) ≡ false) [
      | true ↦ or_from _ _ parts.0 (has_name-filter name keep labels parts.1)
      | false ↦ has_name-filter name keep labels parts.1
    ]

-- a filter leaves no name twice where none was given twice
pub repeats-filter : (keep : Label → Bool) (labels : List Label) → repeats labels ≡ false → repeats (filter keep labels) ≡ false
repeats-filter keep [] h = refl
repeats-filter keep (label ∷ labels) h =
    let parts = or_parts (has_name label.name labels) (repeats labels) h in
    elim (keep label) as (λ q. repeats (if q then label ∷ filter keep labels else filter keep labels) ≡ false) [
      | true ↦ or_from _ _ (has_name-filter label.name keep labels parts.0) (repeats-filter keep labels parts.1)
      | false ↦ repeats-filter keep labels parts.1
    ]

-- a text without a value's mark is empty
empty_where : (text : List ℕ) → not (length text == 0) ≡ false → text ≡ []
empty_where [] h = refl
empty_where (byte ∷ text) h = absurd (grind (arith, nat_tests))

-- a value that is empty may be left out
pub value_of-filter : (name : List ℕ) (labels : List Label) → repeats labels ≡ false → value_of name (filter has_value labels) ≡ value_of name labels
value_of-filter name [] h = refl
value_of-filter name (label ∷ labels) h =
    let parts = or_parts (has_name label.name labels) (repeats labels) h in
    let rest = value_of-filter name labels parts.1 in
    rw (value_of-cons name label labels) (kept (has_value label) refl parts.0 rest)
  where
    kept : (q : Bool) → q ≡ has_value label → has_name label.name labels ≡ false → value_of name (filter has_value labels) ≡ value_of name labels → value_of name (if q then label ∷ filter has_value labels else filter has_value labels) ≡ (if bytes_eq name label.name then label.value else value_of name labels)
    kept true e apart rest = value_of-cons name label (filter has_value labels) ∙ rw rest refl
    kept false e apart rest = rest ∙ elim (bytes_eq name label.name) as (λ q. bytes_eq name label.name ≡ q → value_of name labels ≡ (if q then label.value else value_of name labels)) [
      | true ↦ λ f. value_of-absent name labels (ap (λ (n : List ℕ). has_name n labels) ((bytes_eq-Decides name label.name).0 f) ∙ apart) ∙ sym (empty_where label.value (sym e))
      | false ↦ λ f. refl
    ] refl
