-- Labels that are among others: found by a search, and kept.
use Rattle.std.proofs.Common.{◌≡◌, ◌⊎◌, ◌&&◌, ◌||◌, inl, inr, ℕ, ◌+◌, ◌<◌, ◌≤◌, Bool, true, false, cond, List, [], ◌∷◌, Result, Ok, Err, length, get_or, map, arith, refl, sym, ap, ◌∙◌}
use Rattle.std.specs.List.{AllByRecursion, filter, list_all, list_any}
use Rattle.std.specs.List.Sorted.{IsBinarySearchResult, IsPartitionPoint, IsStrictlySortedBy}
use Rattle.std.specs.Ordering.{is_eq, is_lt, ordering_reverse}
use Rattle.std.specs.Result.{MatchResult, is_ok}
use Rattle.std.specs.declared.cmp.Ordering.TheVariants.{Less, Greater}
use Rattle.std.proofs.lemmas.Bool.{cases_lt}
use Rattle.std.proofs.lemmas.List.Elements.{All-from_get_or}
use Rattle.std.proofs.lemmas.List.Folds.{list_any_at, list_any_none}
use Rattle.std.proofs.lemmas.List.Sorted.{searchable_from_sorted}
use Rattle.std.proofs.lemmas.Map.Keys.{Less-from_sorted}
use Rattle.am_labels.specs.declared.Label.{Label}
use Rattle.am_labels.specs.Labels.{label_cmp, label_total, name_cmp}
use Rattle.am_payload.specs.Webhook.{is_among}

-- ---- found by a search

-- labels whose names rise, rise
by_label : (labels : List Label) → IsStrictlySortedBy name_cmp labels → IsStrictlySortedBy label_cmp labels
unfolding IsStrictlySortedBy
by_label [] up = tt
by_label (label ∷ labels) up = (above labels up.0, by_label labels up.1)
  where
    above : (others : List Label) → AllByRecursion (λ other. name_cmp label other ≡ Less) others → AllByRecursion (λ other. label_cmp label other ≡ Less) others
    above [] all = tt
    above (other ∷ others) all = (rw all.0 refl, above others all.1)

-- labels in order can be searched
searchable : (labels : List Label) → IsStrictlySortedBy label_cmp labels → (k : ℕ) (d : Label) → 0 ≤ k → k + 1 < length labels → is_lt (label_cmp (get_or labels (k + 1) d) (get_or labels k d)) ≡ false
searchable labels up k d low within = ap is_lt (label_total.antisymm (get_or labels (k + 1) d) (get_or labels k d) ∙ ap ordering_reverse (Less-from_sorted label_cmp labels k (k + 1) d up (omega arith) within))

-- what a search answers
pub among_by_search : (labels : List Label) (label : Label) (r : Result ℕ ℕ) → IsStrictlySortedBy name_cmp labels → IsBinarySearchResult (λ other. label_cmp other label) labels r → MatchResult r (λ i. i < length labels) (λ i. i ≤ length labels)
    → is_ok r ≡ is_among labels label
among_by_search labels label (Ok i) up found within =
    sym (list_any_at (λ other. is_eq (label_cmp other label)) labels i label within (ap is_eq (found label)))
among_by_search labels label (Err i) up missed within =
    let parts = missed (searchable_from_sorted label_total (λ (l : Label). l) labels label (searchable labels (by_label labels up))) in
    sym (list_any_none (λ other. is_eq (label_cmp other label)) labels (All-from_get_or (λ other. is_eq (label_cmp other label) ≡ false) labels label (λ k k_within. by_side k (cases_lt k i) k_within parts)))
  where
    by_side : (k : ℕ) → (k < i) ⊎ (i ≤ k) → k < length labels → IsPartitionPoint (λ other. label_cmp other label ≡ Less) (λ other. label_cmp other label ≡ Greater) labels i → is_eq (label_cmp (get_or labels k label) label) ≡ false
    by_side k (inl low) k_within parts = ap is_eq (parts.0 k label (omega arith) low)
    by_side k (inr high) k_within parts = ap is_eq (parts.1 k label high k_within)

-- ---- kept

-- a filter by what is seen
pub seen-filter : {A B : Type 0} (seen : A → B) (p : B → Bool) (xs : List A) → map seen (filter (λ x. p (seen x)) xs) ≡ filter p (map seen xs)
seen-filter seen p [] = refl
seen-filter seen p (x ∷ xs) = elim (p (seen x)) as (λ b. map seen (cond b (x ∷ filter (λ y. p (seen y)) xs) (filter (λ y. p (seen y)) xs)) ≡ cond b (seen x ∷ filter p (map seen xs)) (filter p (map seen xs))) [
  | true ↦ ap (λ ys. seen x ∷ ys) (seen-filter seen p xs)
  | false ↦ seen-filter seen p xs
]

-- a test of what is seen
pub seen-any : {A B : Type 0} (seen : A → B) (test : B → Bool) (xs : List A) → list_any test (map seen xs) ≡ list_any (λ x. test (seen x)) xs
seen-any seen test [] = refl
seen-any seen test (x ∷ xs) = ap (λ b. test (seen x) || b) (seen-any seen test xs)

-- those that all the others have
abbrev pub kept_by : List (List Label) → List Label → List Label
kept_by others labels = filter (λ label. list_all (λ other. is_among other label) others) labels

-- one list after the other
pub kept-by-more : (first : List Label) (others : List (List Label)) (labels : List Label) → kept_by others (filter (is_among first) labels) ≡ kept_by (first ∷ others) labels
kept-by-more first others [] = refl
kept-by-more first others (label ∷ labels) = elim (is_among first label) as (λ b. kept_by others (cond b (label ∷ filter (is_among first) labels) (filter (is_among first) labels)) ≡ cond (b && list_all (λ other. is_among other label) others) (label ∷ kept_by (first ∷ others) labels) (kept_by (first ∷ others) labels)) [
  | true ↦ ap (λ ls. cond (list_all (λ other. is_among other label) others) (label ∷ ls) ls) (kept-by-more first others labels)
  | false ↦ kept-by-more first others labels
]

-- where no list is left
pub kept-by-none : (labels : List Label) → kept_by [] labels ≡ labels
kept-by-none [] = refl
kept-by-none (label ∷ labels) = ap (λ ls. label ∷ ls) (kept-by-none labels)

-- no labels rise
pub rising_none : IsStrictlySortedBy name_cmp []
unfolding IsStrictlySortedBy
rising_none = tt
