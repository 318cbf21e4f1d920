-- A database stays a store where a row takes the place of those of its key.
use Rattle.std.proofs.Common.{◌≡◌, inl, inr, ℕ, Bool, true, false, not, cond, List, [], ◌∷◌, map, refl, sym, ap, ◌∙◌}
use Rattle.std.specs.List.{AllByRecursion, filter}
use Rattle.std.proofs.lemmas.Bool.{cases_Bool, cond-false}
use Rattle.sqlite_trees.proofs.ListLemmas.{filter-map}
use Rattle.sqlite.specs.Order.{Row}
use Rattle.sqlite.specs.Edit.{is_taken}
use Rattle.sqlite.specs.Tree.{put_row}
use Rattle.am_store.specs.Stored.{Stored, key_in}
use Rattle.am_store.proofs.Latest.{Pair, is_at}
use Rattle.am_store.proofs.RowLists.{put_alone, put_unseen}

-- a test that no element passes leaves none
pub filter_none : {X : Type 0} (p : X → Bool) (xs : List X) → AllByRecursion (λ x. p x ≡ false) xs → filter p xs ≡ []
filter_none p [] all = refl
filter_none p (x ∷ xs) all = cond-false (p x) _ _ all.0 ∙ filter_none p xs all.1

pub map_within : {X Y : Type 0} (P : Y → Type 0) (f : X → Y) (xs : List X) → AllByRecursion (λ x. P (f x)) xs → AllByRecursion P (map f xs)
map_within P f [] all = tt
map_within P f (x ∷ xs) all = (all.0, map_within P f xs all.1)

module _ (says : Row → Pair) (test : Row → Bool) (here : Pair → Bool) where
  -- none that passes the test is left ..
  pub none_left : (rs : List Row) → AllByRecursion (λ r. test r ≡ here (says r)) rs → filter (λ r. here (says r)) (filter (λ r. not (test r)) rs) ≡ []
  none_left [] all = refl
  none_left (r ∷ rs) all = elim (cases_Bool (test r)) [
    | inl gone ↦ rw gone (none_left rs all.1)
    | inr stays ↦ rw stays (cond-false (here (says r)) _ _ (sym all.0 ∙ stays) ∙ none_left rs all.1)
  ]

  -- .. and what is blind to those sees the same
  pub still : (p : Pair → Bool) → ((q : Pair) → here q ≡ true → p q ≡ false) → (rs : List Row) → AllByRecursion (λ r. test r ≡ here (says r)) rs
      → filter (λ r. p (says r)) (filter (λ r. not (test r)) rs) ≡ filter (λ r. p (says r)) rs
  still p blind [] all = refl
  still p blind (r ∷ rs) all = elim (cases_Bool (test r)) [
    | inl gone ↦ rw gone (still p blind rs all.1 ∙ sym (cond-false (p (says r)) _ _ (blind (says r) (sym all.0 ∙ gone))))
    | inr stays ↦ rw stays (ap (λ ys. cond (p (says r)) (r ∷ ys) ys) (still p blind rs all.1))
  ]

module _ (says : Row → Pair) (test : Row → Bool) (t : List ℕ) (x : Stored) (rows : List Row) (row : Row) (is : says row ≡ (t, x))
    (own : is_at t (key_in x.value) (t, x) ≡ true)
    (tells : AllByRecursion (λ r. test r ≡ is_at t (key_in x.value) (says r)) rows)
    (free : is_taken (filter (λ r. not (test r)) rows) row ≡ false) where
  abbrev left : List Row
  left = filter (λ r. not (test r)) rows

  abbrev here : Pair → Bool
  here = is_at t (key_in x.value)

  pub row_alone : filter here (map says (put_row row left)) ≡ (t, x) ∷ []
  row_alone =
      filter-map here says (put_row row left)
      ∙ ap (map says) (put_alone row (λ r. here (says r)) left free (ap here is ∙ own) (none_left says test here rows tells))
      ∙ ap (λ p. p ∷ []) is

  pub row_unseen : (p : Pair → Bool) → ((q : Pair) → here q ≡ true → p q ≡ false) → filter p (map says (put_row row left)) ≡ filter p (map says rows)
  row_unseen p blind =
      filter-map p says (put_row row left)
      ∙ ap (map says) (put_unseen row (λ r. p (says r)) left free (ap p is ∙ blind (t, x) own) ∙ still says test here p blind rows tells)
      ∙ sym (filter-map p says rows)
