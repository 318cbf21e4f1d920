-- Rows that are taken out by their rowids, and rows that are put in.
use Rattle.std.proofs.Common.{◌≡◌, inl, inr, ℤ, Bool, true, false, cond, not, ◌&&◌, ◌||◌, List, [], ◌∷◌, map, refl, sym, ap, subst, ◌∙◌}
use Rattle.std.specs.List.{AllByRecursion, filter, list_any}
use Rattle.std.specs.List.Sorted.{IsPermutation}
use Rattle.std.specs.Ordering.{is_eq, ordering_reverse}
use Rattle.std.specs.declared.cmp.Ordering.{Ordering}
use Rattle.std.specs.declared.cmp.Ordering.TheVariants.{Less, Equal, Greater}
use Rattle.std.proofs.lemmas.Bool.{cases_Bool, cond-false, cond-true, or_from, or_parts, true≢false}
use Rattle.std.proofs.lemmas.Cmp.{tied_itself}
use Rattle.std.proofs.lemmas.List.Sorted.{list_any-IsPermutation}
use Rattle.sqlite_value.proofs.OrderLemmas.{value_cmp_total}
use Rattle.sqlite.specs.Order.{Row}
use Rattle.sqlite_value.specs.Order.{value_cmp}
use Rattle.sqlite.specs.Tree.{rowid, has_rowid, put_row, without_rowid}
use Rattle.sqlite.specs.Edit.{id_in, is_taken, without_all}
use Rattle.am_item.proofs.Keys.{by_order}
use Rattle.am_store.specs.Apart.{AreApart, HasId}

-- ---- filters

pub filter_both : {X : Type 0} (p q : X → Bool) (xs : List X) → filter p (filter q xs) ≡ filter (λ x. q x && p x) xs
filter_both p q [] = refl
filter_both p q (x ∷ xs) = elim (cases_Bool (q x)) [
  | inl hit ↦ rw hit (elim (cases_Bool (p x)) [ inl both ↦ rw both (ap (λ ys. x ∷ ys) (filter_both p q xs)) | inr one ↦ rw one (filter_both p q xs) ])
  | inr none ↦ rw none (filter_both p q xs)
]

pub filter_same : {X : Type 0} (p q : X → Bool) → ((x : X) → p x ≡ q x) → (xs : List X) → filter p xs ≡ filter q xs
filter_same p q h xs = ap (λ f. filter f xs) (λ i x. h x i)

pub filter_within : {X : Type 0} (p q : X → Bool) (xs : List X) → AllByRecursion (λ x. p x ≡ q x) xs → filter p xs ≡ filter q xs
filter_within p q [] all = refl
filter_within p q (x ∷ xs) all = elim (cases_Bool (q x)) [
  | inl hit ↦ rw (all.0, hit) (ap (λ ys. x ∷ ys) (filter_within p q xs all.1))
  | inr none ↦ rw (all.0, none) (filter_within p q xs all.1)
]

pub all_filter : {X : Type 0} (P : X → Type 0) (p : X → Bool) (xs : List X) → AllByRecursion P xs → AllByRecursion P (filter p xs)
all_filter P p [] all = tt
all_filter P p (x ∷ xs) all = elim (cases_Bool (p x)) [
  | inl hit ↦ rw hit (all.0, all_filter P p xs all.1)
  | inr none ↦ rw none (all_filter P p xs all.1)
]

pub all_weaker : {X : Type 0} (P Q : X → Type 0) → ((x : X) → P x → Q x) → (xs : List X) → AllByRecursion P xs → AllByRecursion Q xs
all_weaker P Q f [] all = tt
all_weaker P Q f (x ∷ xs) all = (f x all.0, all_weaker P Q f xs all.1)

-- none of a list passes, so none of what is filtered out of it
any_filter : {X : Type 0} (p q : X → Bool) (xs : List X) → list_any p xs ≡ false → list_any p (filter q xs) ≡ false
any_filter p q [] none = refl
any_filter p q (x ∷ xs) none =
    let parts = or_parts (p x) (list_any p xs) none in
    elim (cases_Bool (q x)) [
      | inl hit ↦ rw hit (or_from (p x) _ parts.0 (any_filter p q xs parts.1))
      | inr miss ↦ rw miss (any_filter p q xs parts.1)
    ]

-- a test that none passes, as equations
pub none_passes : {X : Type 0} (p : X → Bool) (xs : List X) → list_any p xs ≡ false → AllByRecursion (λ x. p x ≡ false) xs
none_passes p [] none = tt
none_passes p (x ∷ xs) none = let parts = or_parts (p x) (list_any p xs) none in (parts.0, none_passes p xs parts.1)

-- ---- rowids

-- the rows have one rowid
abbrev pub same_id : Row → Row → Bool
same_id a b = is_eq (value_cmp (rowid a) (rowid b))

pub is_eq-reverse : (o : Ordering) → is_eq (ordering_reverse o) ≡ is_eq o
is_eq-reverse Less = refl
is_eq-reverse Equal = refl
is_eq-reverse Greater = refl

pub same_id-sym : (a b : Row) → same_id a b ≡ same_id b a
same_id-sym a b = ap is_eq (value_cmp_total.antisymm (rowid a) (rowid b)) ∙ is_eq-reverse _

same_id-self : (a : Row) → same_id a a ≡ true
same_id-self a = ap is_eq (tied_itself value_cmp_total (rowid a))

-- a row has the rowid of one of these
abbrev any_of : List ℤ → Row → Bool
any_of ids row = list_any (λ id. has_rowid id row) ids

without_all-filter : (ids : List ℤ) (rows : List Row) → without_all rows ids ≡ filter (λ r. not (any_of ids r)) rows
without_all-filter [] rows = sym (all_stay rows)
  where
    all_stay : (rows : List Row) → filter (λ r. true) rows ≡ rows
    all_stay [] = refl
    all_stay (r ∷ rs) = ap (λ xs. r ∷ xs) (all_stay rs)
without_all-filter (id ∷ ids) rows =
    without_all-filter ids (without_rowid id rows)
    ∙ filter_both (λ r. not (any_of ids r)) (λ r. not (has_rowid id r)) rows
    ∙ filter_same _ _ (λ r. neither (has_rowid id r) (any_of ids r)) rows
  where
    neither : (a b : Bool) → (not a && not b) ≡ not (a || b)
    neither true b = refl
    neither false b = refl

ids_same : (gone : List Row) (row : Row) → AllByRecursion HasId gone → any_of (map (λ r. id_in (rowid r)) gone) row ≡ list_any (λ g. same_id row g) gone
ids_same [] row all = refl
ids_same (g ∷ gone) row all =
    let here : has_rowid (id_in (rowid g)) row ≡ same_id row g = let e = all.0.1 in rw e refl in
    rw (here, ids_same gone row all.1) refl

-- rows that are apart, without those that pass a test
left_out : (test : Row → Bool) (rows : List Row) → AreApart rows → filter (λ r. not (list_any (λ g. same_id r g) (filter test rows))) rows ≡ filter (λ r. not (test r)) rows
left_out test [] apart = refl
left_out test (r ∷ rs) apart = elim (cases_Bool (test r)) [
  | inl hit ↦
      let gone : filter test (r ∷ rs) ≡ r ∷ filter test rs = cond-true (test r) _ _ hit in
      let others : AllByRecursion (λ s. not (same_id s r || list_any (λ g. same_id s g) (filter test rs)) ≡ not (list_any (λ g. same_id s g) (filter test rs))) rs =
      all_weaker (λ s. same_id s r ≡ false) _ (λ s e. rw e refl) rs (none_passes (λ s. same_id s r) rs apart.0) in
      subst (λ xs. filter (λ s. not (list_any (λ g. same_id s g) xs)) (r ∷ rs) ≡ filter (λ s. not (test s)) (r ∷ rs)) (sym gone)
      (rw (hit, same_id-self r) (filter_within _ _ rs others ∙ left_out test rs apart.1))
  | inr stays ↦
      let gone : filter test (r ∷ rs) ≡ filter test rs = cond-false (test r) _ _ stays in
      let alone : list_any (λ g. same_id r g) (filter test rs) ≡ false =
      any_filter (λ g. same_id r g) test rs (ap (λ p. list_any p rs) (λ i s. same_id-sym r s i) ∙ apart.0) in
      subst (λ xs. filter (λ s. not (list_any (λ g. same_id s g) xs)) (r ∷ rs) ≡ filter (λ s. not (test s)) (r ∷ rs)) (sym gone)
      (rw (stays, alone) (ap (λ xs. r ∷ xs) (left_out test rs apart.1)))
]

-- what is left where the rows that pass a test are taken out by their rowids
pub without_test : (test : Row → Bool) (rows : List Row) (ids : List ℤ) → AllByRecursion HasId rows → AreApart rows
    → IsPermutation (map (λ r. id_in (rowid r)) (filter test rows)) ids → without_all rows ids ≡ filter (λ r. not (test r)) rows
without_test test rows ids have apart same =
    without_all-filter ids rows
    ∙ filter_same _ _ (λ r. ap not (sym (list_any-IsPermutation (λ id. has_rowid id r) _ ids same) ∙ ids_same (filter test rows) r (all_filter HasId test rows have))) rows
    ∙ left_out test rows apart

-- rows that are apart stay so where some go
pub apart_filter : (p : Row → Bool) (rows : List Row) → AreApart rows → AreApart (filter p rows)
apart_filter p [] apart = tt
apart_filter p (r ∷ rs) apart = elim (cases_Bool (p r)) [
  | inl hit ↦ rw hit (any_filter (λ s. same_id s r) p rs apart.0, apart_filter p rs apart.1)
  | inr none ↦ rw none (apart_filter p rs apart.1)
]

-- ---- one row more

module _ (new : Row) where
  by_place : (G : List Row → Type 0) (r : Row) (rs : List Row) → is_taken (r ∷ rs) new ≡ false → (same_id r new ≡ false → G (r ∷ put_row new rs)) → (same_id r new ≡ false → G (new ∷ r ∷ rs)) → G (put_row new (r ∷ rs))
  by_place G r rs free below above =
      let apart = (or_parts (same_id r new) (is_taken rs new) free).0 in
      by_order (value_cmp (rowid r) (rowid new))
      (λ less. rw less (below apart))
      (λ tied. absurd (true≢false (sym (ap is_eq tied) ∙ apart)))
      (λ greater. rw greater (above apart))

  pub put_unseen : (p : Row → Bool) (rows : List Row) → is_taken rows new ≡ false → p new ≡ false → filter p (put_row new rows) ≡ filter p rows
  put_unseen p [] free unseen = rw unseen refl
  put_unseen p (r ∷ rs) free unseen =
      by_place (λ xs. filter p xs ≡ filter p (r ∷ rs)) r rs free
      (λ apart. ap (λ xs. cond (p r) (r ∷ xs) xs) (put_unseen p rs (or_parts (same_id r new) (is_taken rs new) free).1 unseen))
      (λ apart. rw unseen refl)

  pub put_alone : (p : Row → Bool) (rows : List Row) → is_taken rows new ≡ false → p new ≡ true → filter p rows ≡ [] → filter p (put_row new rows) ≡ new ∷ []
  put_alone p [] free seen none = rw seen refl
  put_alone p (r ∷ rs) free seen none =
      let no : p r ≡ false = first_fails p r rs none in
      let rest : filter p rs ≡ [] = sym (cond-false (p r) _ _ no) ∙ none in
      by_place (λ xs. filter p xs ≡ new ∷ []) r rs free
      (λ apart. rw no (put_alone p rs (or_parts (same_id r new) (is_taken rs new) free).1 seen rest))
      (λ apart. rw (seen, no, rest) refl)
    where
      first_fails : (p : Row → Bool) (r : Row) (rs : List Row) → filter p (r ∷ rs) ≡ [] → p r ≡ false
      first_fails p r rs none = elim (cases_Bool (p r)) [ inl hit ↦ absurd (let e = rw hit at none in cc) | inr miss ↦ miss ]

  put_none : (p : Row → Bool) (rows : List Row) → is_taken rows new ≡ false → p new ≡ false → list_any p rows ≡ false → list_any p (put_row new rows) ≡ false
  put_none p [] free unseen none = rw unseen refl
  put_none p (r ∷ rs) free unseen none =
      let parts = or_parts (p r) (list_any p rs) none in
      by_place (λ xs. list_any p xs ≡ false) r rs free
      (λ apart. or_from (p r) _ parts.0 (put_none p rs (or_parts (same_id r new) (is_taken rs new) free).1 unseen parts.1))
      (λ apart. or_from (p new) _ unseen none)

  pub apart_put : (rows : List Row) → is_taken rows new ≡ false → AreApart rows → AreApart (put_row new rows)
  apart_put [] free apart = (refl, tt)
  apart_put (r ∷ rs) free apart =
      let rest = (or_parts (same_id r new) (is_taken rs new) free).1 in
      by_place AreApart r rs free
      (λ other. (put_none (λ s. same_id s r) rs rest (same_id-sym new r ∙ other) apart.0, apart_put rs rest apart.1))
      (λ other. (free, apart))
