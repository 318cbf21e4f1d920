-- What becomes of the rows of each tenant where pairs come and go.
use Rattle.std.proofs.Common.{◌≡◌, inl, inr, ℕ, Bool, true, false, cond, not, ◌&&◌, ◌||◌, List, [], ◌∷◌, ◌++◌, map, filter, Option, Some, None, append_assoc, refl, sym, ap, ◌∙◌, subst}
use Rattle.std.specs.List.{dedup, dedup_from, list_any}
use Rattle.std.specs.List.Sorted.{IsStrictlySortedBy}
use Rattle.std.specs.Ordering.{is_eq}
use Rattle.std.specs.Str.{bytes_eq}
use Rattle.std.proofs.lemmas.Bool.{and_parts, cases_Bool, cond-false, cond-true}
use Rattle.std.proofs.lemmas.List.{append-nil, map-append}
use Rattle.std.proofs.lemmas.List.Elements.{filter-append}
use Rattle.am_tenant.specs.Names.{same}
use Rattle.am_tenant.proofs.Same.{eq_from_same, same-refl, same-sym}
use Rattle.am_item.specs.Best.{all_joined, best, greatest, joined, of_key}
use Rattle.am_item.specs.Key.{Key, SilenceKey, has_key, key_cmp, key_of}
use Rattle.am_item.specs.declared.item.Item.{Item}
use Rattle.am_item.proofs.BestLaws.{at-best, best-append_best_left, greatest_at, greatest_keyed, rising-best}
use Rattle.am_item.proofs.Joining.{all_joined-merged}
use Rattle.am_item.proofs.Keys.{key_same}
use Rattle.am_item.proofs.Rising.{rising_same}
use Rattle.am_share.specs.Pairs.{things_of}
use Rattle.am_rows.specs.Rows.{Makes, is_among, is_stored, no_rows, put_rows, rows_of, stored_in, without_key, without_silences}
use Rattle.am_rows.proofs.Dropping.{first_gone, none_gone}
use Rattle.am_rows.proofs.Following.{at-filter, filter_swap, put_follows, rising-filter, sifted, stored_twice}
use Rattle.am_test_store.specs.Pairs.{with_name}

abbrev Pairs : Type 0
Pairs = List (List ℕ × Item)

abbrev Silences : Type 0
Silences = List (List ℕ × List ℕ)

-- ---- what is put

things-append : (t : List ℕ) (xs ys : Pairs) → things_of t (xs ++ ys) ≡ things_of t xs ++ things_of t ys
unfolding things_of
things-append t xs ys = ap (map (λ p. p.1)) (filter-append (λ p. same t p.0) xs ys) ∙ map-append (λ p. p.1) (filter (λ p. same t p.0) xs) (filter (λ p. same t p.0) ys)

-- a tenant's own items
own_things : (t : List ℕ) (xs : List Item) → things_of t (map (with_name t) xs) ≡ xs
unfolding things_of
own_things t [] = refl
own_things t (x ∷ xs) = rw (same-refl t) (ap (λ ys. x ∷ ys) (own_things t xs))

-- those of another
others_things : (u t : List ℕ) → same u t ≡ false → (xs : List Item) → things_of u (map (with_name t) xs) ≡ []
unfolding things_of
others_things u t other [] = refl
others_things u t other (x ∷ xs) = rw other (others_things u t other xs)

-- rows where items that are stored come
come : (xs items : List Item) → stored_in (best (xs ++ stored_in items)) ≡ put_rows items (stored_in (best xs))
unfolding put_rows
come xs items =
    let kept = stored_in items in
    ap stored_in (sym (best-append_best_left xs kept) ∙ sym (all_joined-merged (best xs) kept (rising-best xs)))
    ∙ sym (put_follows (best xs) kept (rising-best xs))
    ∙ ap (all_joined (stored_in (best xs))) (stored_twice items)

pub puts : (t : List ℕ) (items : List Item) (old new : Pairs) → new ≡ old ++ map (with_name t) (stored_in items) → Makes t (put_rows items) old new
unfolding rows_of
puts t items old new is u = elim (cases_Bool (same u t)) [
  | inl own ↦
      ap (λ xs. stored_in (best xs)) (ap (things_of u) is ∙ things-append u old (map (with_name t) (stored_in items))
      ∙ ap (λ xs. things_of u old ++ xs) (subst (λ v. things_of v (map (with_name t) (stored_in items)) ≡ stored_in items) (sym (eq_from_same u t own)) (own_things t (stored_in items))))
      ∙ come (things_of u old) items ∙ sym (cond-true _ _ _ own)
  | inr other ↦
      ap (λ xs. stored_in (best xs)) (ap (things_of u) is ∙ things-append u old (map (with_name t) (stored_in items))
      ∙ ap (λ xs. things_of u old ++ xs) (others_things u t other (stored_in items)) ∙ append-nil (things_of u old))
      ∙ sym (cond-false _ _ _ other)
]

-- ---- what is dropped by a test of its key

module _ (test : Key → Bool) where
  passes : Item → Bool
  passes x = test (key_of x)

  -- the items of a key pass together
  of_kept : (key : Key) (xs : List Item) → of_key key (filter (λ x. test (key_of x)) xs) ≡ cond (test key) (of_key key xs) []
  of_kept key [] = nothing (test key)
    where
      nothing : (b : Bool) → [] ≡ cond b (of_key key []) []
      nothing true = refl
      nothing false = refl
  of_kept key (x ∷ xs) = elim (cases_Bool (has_key key x)) [
    | inl here ↦
        let like : test (key_of x) ≡ test key = ap test (sym (key_same key (key_of x) here)) in
        elim (cases_Bool (test key)) [
          | inl is ↦ rw (like ∙ is) (rw (here, is) (ap (λ ys. x ∷ ys) (of_kept key xs ∙ cond-true _ _ _ is)))
          | inr not ↦ rw (like ∙ not) (rw not (of_kept key xs ∙ cond-false _ _ _ not))
        ]
    | inr other ↦ elim (cases_Bool (test (key_of x))) [
      | inl is ↦ rw is (rw other (of_kept key xs))
      | inr not ↦ rw not (rw other (of_kept key xs))
    ]
  ]

  sift : (key : Key) (o : Option Item) → ((x : Item) → o ≡ Some x → key_of x ≡ key) → sifted (λ x. test (key_of x)) o ≡ cond (test key) o None
  sift key None keyed = nothing (test key)
    where
      nothing : (b : Bool) → sifted (λ x. test (key_of x)) None ≡ cond b None None
      nothing true = refl
      nothing false = refl
  sift key (Some x) keyed = ap (λ k. cond (test k) (Some x) None) (keyed x refl)

  greatest_kept : (key : Key) (xs : List Item) → greatest_at key (filter (λ x. test (key_of x)) xs) ≡ sifted (λ x. test (key_of x)) (greatest_at key xs)
  greatest_kept key xs =
      ap greatest (of_kept key xs) ∙ split (test key) ∙ sym (sift key (greatest_at key xs) (λ x is. greatest_keyed xs key x is))
    where
      split : (b : Bool) → greatest (cond b (of_key key xs) []) ≡ cond b (greatest_at key xs) None
      split true = refl
      split false = refl

  best_kept : (xs : List Item) → best (filter (λ x. test (key_of x)) xs) ≡ filter (λ x. test (key_of x)) (best xs)
  best_kept xs =
      rising_same _ _ (rising-best (filter (λ x. test (key_of x)) xs)) (rising-filter (λ x. test (key_of x)) (best xs) (rising-best xs))
      (λ key.
      at-best key (filter (λ x. test (key_of x)) xs) ∙ greatest_kept key xs
      ∙ sym (at-filter (λ x. test (key_of x)) key (best xs) (rising-best xs) ∙ ap (sifted (λ x. test (key_of x))) (at-best key xs)))

  pub rows_kept : (xs : List Item) → stored_in (best (filter (λ x. test (key_of x)) xs)) ≡ filter (λ x. test (key_of x)) (stored_in (best xs))
  unfolding stored_in
  rows_kept xs = ap (filter is_stored) (best_kept xs) ∙ filter_swap is_stored (λ x. test (key_of x)) (best xs)

-- what is left of a tenant's own
things_left : (ss : Silences) (t : List ℕ) (pairs : Pairs)
    → things_of t (filter (λ p. not (is_among p.0 ss p.1)) pairs) ≡ filter (λ x. not (is_among t ss x)) (things_of t pairs)
unfolding things_of
things_left ss t [] = refl
things_left ss t (p ∷ pairs) = elim (cases_Bool (same t p.0)) [
  | inl own ↦
      let named : p.0 ≡ t = sym (eq_from_same t p.0 own) in
      let like : is_among p.0 ss p.1 ≡ is_among t ss p.1 = ap (λ n. is_among n ss p.1) named in
      elim (cases_Bool (is_among t ss p.1)) [
        | inl gone ↦ rw (like ∙ gone) (rw own (rw gone (things_left ss t pairs)))
        | inr stays ↦ rw (like ∙ stays) (rw own (rw stays (ap (λ xs. p.1 ∷ xs) (things_left ss t pairs))))
      ]
  | inr other ↦ elim (cases_Bool (is_among p.0 ss p.1)) [
    | inl gone ↦ rw gone (rw other (things_left ss t pairs))
    | inr stays ↦ rw stays (rw other (things_left ss t pairs))
  ]
]

pub drops_each : (ss : Silences) (old new : Pairs) → new ≡ filter (λ p. not (is_among p.0 ss p.1)) old
    → (t : List ℕ) → rows_of t new ≡ without_silences ss t (rows_of t old)
unfolding rows_of
drops_each ss old new is t =
    ap (λ xs. stored_in (best xs)) (ap (things_of t) is ∙ things_left ss t old)
    ∙ rows_kept (λ key. not (list_any (λ s. same t s.0 && is_eq (key_cmp (SilenceKey s.1) key)) ss)) (things_of t old)

-- one silence of a tenant
pub drops_one : (t id : List ℕ) (old new : Pairs)
    → ((u : List ℕ) → rows_of u new ≡ without_silences ((t, id) ∷ []) u (rows_of u old)) → Makes t (without_key (SilenceKey id)) old new
drops_one t id old new are u = are u ∙ first_gone (t, id) [] u (rows_of u old) ∙ none_gone u _

-- ---- all that is a tenant's is dropped

none_left : (t : List ℕ) (pairs : Pairs) → things_of t (filter (λ p. not (same p.0 t)) pairs) ≡ []
unfolding things_of
none_left t [] = refl
none_left t (p ∷ pairs) = elim (cases_Bool (same p.0 t)) [
  | inl own ↦ rw own (none_left t pairs)
  | inr other ↦ rw other (rw (same-sym t p.0 ∙ other) (none_left t pairs))
]

others_left : (u t : List ℕ) → same u t ≡ false → (pairs : Pairs) → things_of u (filter (λ p. not (same p.0 t)) pairs) ≡ things_of u pairs
unfolding things_of
others_left u t apart [] = refl
others_left u t apart (p ∷ pairs) = elim (cases_Bool (same p.0 t)) [
  | inl own ↦
      let not_its : same u p.0 ≡ false = ap (same u) (eq_from_same p.0 t own) ∙ apart in
      rw own (rw not_its (others_left u t apart pairs))
  | inr other ↦ rw other (elim (cases_Bool (same u p.0)) [
    | inl its ↦ rw its (ap (λ xs. p.1 ∷ xs) (others_left u t apart pairs))
    | inr not ↦ rw not (others_left u t apart pairs)
  ])
]

no_best : stored_in (best []) ≡ []
unfolding stored_in best
no_best = refl

pub drops_all : (t : List ℕ) (old new : Pairs) → new ≡ filter (λ p. not (same p.0 t)) old → Makes t no_rows old new
unfolding rows_of
drops_all t old new is u = elim (cases_Bool (same u t)) [
  | inl own ↦
      ap (λ xs. stored_in (best xs)) (ap (things_of u) is ∙ subst (λ v. things_of v (filter (λ p. not (same p.0 t)) old) ≡ []) (sym (eq_from_same u t own)) (none_left t old))
      ∙ no_best ∙ sym (cond-true _ _ _ own)
  | inr other ↦ ap (λ xs. stored_in (best xs)) (ap (things_of u) is ∙ others_left u t other old) ∙ sym (cond-false _ _ _ other)
]

-- ---- what is read

none_named : (t : List ℕ) (pairs : Pairs) → list_any (λ p. same t p.0) pairs ≡ false → things_of t pairs ≡ []
unfolding things_of
none_named t [] none = refl
none_named t (p ∷ pairs) none = elim (cases_Bool (same t p.0)) [
  | inl own ↦ absurd (let clash : true ≡ false = sym (ap (λ b. b || list_any (λ q. same t q.0) pairs) own) ∙ none in cc)
  | inr other ↦ rw other (none_named t pairs (sym (ap (λ b. b || list_any (λ q. same t q.0) pairs) other) ∙ none))
]

pub unnamed : (t : List ℕ) (pairs : Pairs) → list_any (λ p. same t p.0) pairs ≡ false → rows_of t pairs ≡ []
unfolding rows_of
unnamed t pairs none = ap (λ xs. stored_in (best xs)) (none_named t pairs none) ∙ no_best

-- the rows are what is stored of the tenant's items, one after the other
pub rows_joined : (t : List ℕ) (pairs : Pairs) → all_joined [] (stored_in (things_of t pairs)) ≡ rows_of t pairs
unfolding rows_of put_rows IsStrictlySortedBy stored_in
rows_joined t pairs = put_follows [] (things_of t pairs) tt ∙ ap stored_in (all_joined-merged [] (things_of t pairs) tt)

stored-append : (xs ys : List Item) → stored_in (xs ++ ys) ≡ stored_in xs ++ stored_in ys
unfolding stored_in
stored-append xs ys = filter-append is_stored xs ys

joined-append : (held xs ys : List Item) → all_joined held (xs ++ ys) ≡ all_joined (all_joined held xs) ys
joined-append held [] ys = refl
joined-append held (x ∷ xs) ys = joined-append (joined held x) xs ys

-- a pair more
pub one_more : (t : List ℕ) (held : List Item) (p : List ℕ × Item) (rest : Pairs)
    → all_joined (all_joined held (stored_in (things_of t (p ∷ [])))) (stored_in (things_of t rest)) ≡ all_joined held (stored_in (things_of t (p ∷ rest)))
one_more t held p rest =
    sym (ap (λ xs. all_joined held (stored_in xs)) (things-append t (p ∷ []) rest)
    ∙ ap (all_joined held) (stored-append (things_of t (p ∷ [])) (things_of t rest))
    ∙ joined-append held (stored_in (things_of t (p ∷ []))) (stored_in (things_of t rest)))

pub none_more : (t : List ℕ) (held : List Item) → all_joined held (stored_in (things_of t [])) ≡ held
unfolding things_of stored_in
none_more t held = refl

pub no_items : stored_in [] ≡ []
unfolding stored_in
no_items = refl

-- an item more
pub stored_more : (t : List ℕ) (done : Pairs) (x : Item) (xs : List Item)
    → (done ++ map (with_name t) (stored_in (x ∷ []))) ++ map (with_name t) (stored_in xs) ≡ done ++ map (with_name t) (stored_in (x ∷ xs))
stored_more t done x xs =
    append_assoc done (map (with_name t) (stored_in (x ∷ []))) (map (with_name t) (stored_in xs))
    ∙ ap (λ ps. done ++ ps) (sym (ap (map (with_name t)) (stored-append (x ∷ []) xs) ∙ map-append (with_name t) (stored_in (x ∷ [])) (stored_in xs)))

-- an item by itself, where it is stored and where it isn't
pub one_stored : (x : Item) → is_stored x ≡ true → stored_in (x ∷ []) ≡ x ∷ []
unfolding stored_in
one_stored x kept = cond-true _ _ _ kept

pub none_stored : (x : Item) → is_stored x ≡ false → stored_in (x ∷ []) ≡ []
unfolding stored_in
none_stored x passed = cond-false _ _ _ passed

-- a pair by itself, where it is one of the tenant that is stored and where it isn't
pub own_pair : (t : List ℕ) (p : List ℕ × Item) → (same t p.0 && is_stored p.1) ≡ true → stored_in (things_of t (p ∷ [])) ≡ p.1 ∷ []
unfolding things_of
own_pair t p is =
    let parts = and_parts (same t p.0) (is_stored p.1) is in
    rw parts.0 (one_stored p.1 parts.1)

pub other_pair : (t : List ℕ) (p : List ℕ × Item) → (same t p.0 && is_stored p.1) ≡ false → stored_in (things_of t (p ∷ [])) ≡ []
unfolding things_of
other_pair t p isnt = elim (cases_Bool (same t p.0)) [
  | inl own ↦
      let passed : is_stored p.1 ≡ false = sym (ap (λ b. b && is_stored p.1) own) ∙ isnt in
      rw own (none_stored p.1 passed)
  | inr other ↦ rw other no_items
]

-- ---- names without those that come again

one_name : (a b : List ℕ) → bytes_eq a b ≡ true → a ≡ b
unfolding same
one_name a b is = eq_from_same a b is

any_after : (t k : List ℕ) (names : List (List ℕ)) → list_any (same t) (dedup_from bytes_eq k names) ≡ (same t k || list_any (same t) names)
any_after t k [] = refl
any_after t k (n ∷ names) = elim (cases_Bool (bytes_eq n k)) [
  | inl again ↦
      ap (list_any (same t)) (cond-true _ _ _ again) ∙ any_after t k names
      ∙ sym (ap (λ m. same t k || (same t m || list_any (same t) names)) (one_name n k again) ∙ twice (same t k) (list_any (same t) names))
  | inr other ↦ ap (list_any (same t)) (cond-false _ _ _ other) ∙ ap (λ b. same t k || b) (any_after t n names)
]
  where
    twice : (a b : Bool) → (a || (a || b)) ≡ (a || b)
    twice true b = refl
    twice false b = refl

pub any_once : (t : List ℕ) (names : List (List ℕ)) → list_any (same t) (dedup bytes_eq names) ≡ list_any (same t) names
any_once t [] = refl
any_once t (n ∷ names) = any_after t n names

pub any_first : (t : List ℕ) (pairs : Pairs) → list_any (same t) (map (λ p. p.0) pairs) ≡ list_any (λ p. same t p.0) pairs
any_first t [] = refl
any_first t (p ∷ pairs) = ap (λ b. same t p.0 || b) (any_first t pairs)
