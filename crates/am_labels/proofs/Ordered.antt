-- Lists in strict order: what an insert in order gives, and that such a list is told by its elements.
use Rattle.std.proofs.Common.{◌≡◌, Bool, true, false, ◌||◌, List, [], ◌∷◌, Ordering, Less, Equal, Greater, refl, sym, ap, ◌∙◌}
use Rattle.std.specs.Cmp.{IsTotalOrder}
use Rattle.std.specs.List.{list_any, AllByRecursion}
use Rattle.std.specs.List.Sorted.{IsStrictlySortedBy}
use Rattle.std.specs.Ordering.{is_eq, match_ordering, ordering_reverse}
use Rattle.std.specs.BTreeSet.{insert_key}
use Rattle.std.proofs.lemmas.Bool.{true≢false, false≢true}
use Rattle.std.proofs.lemmas.Cmp.{tied_itself}
use Rattle.std.proofs.lemmas.Map.Lookups.{CmpEqualImpliesEq}

module _ {K : Type 0} (R : K → K → Ordering) (order : IsTotalOrder R) (exact : CmpEqualImpliesEq R) where
  -- where x is above k, k is below x
  below : (k x : K) → R k x ≡ Greater → R x k ≡ Less
  below k x e = order.antisymm x k ∙ ap ordering_reverse e

  -- what is below x is below all that x is below
  all_above : (k x : K) (xs : List K) → R k x ≡ Less → AllByRecursion (λ y. R x y ≡ Less) xs → AllByRecursion (λ y. R k y ≡ Less) xs
  all_above k x [] e h = h
  all_above k x (y ∷ xs) e h = (order.trans k x y e h.0, all_above k x xs e h.1)

  -- what holds of the elements and of k holds after k is inserted
  all_inserted : (P : K → Type 0) (xs : List K) (k : K) → AllByRecursion P xs → P k → AllByRecursion P (insert_key R xs k)
  all_inserted P [] k h p = (p, h)
  all_inserted P (x ∷ xs) k h p = elim (R k x) as (λ q. AllByRecursion P (match_ordering q (k ∷ x ∷ xs) (x ∷ xs) (x ∷ insert_key R xs k))) [
    | Less ↦ (p, h)
    | Equal ↦ h
    | Greater ↦ (h.0, all_inserted P xs k h.1 p)
  ]

  -- an insert in order keeps strict order
  pub sorted_inserted : (xs : List K) (k : K) → IsStrictlySortedBy R xs → IsStrictlySortedBy R (insert_key R xs k)
  unfolding IsStrictlySortedBy
  sorted_inserted [] k s = (s, s)
  sorted_inserted (x ∷ xs) k s = elim (R k x) as (λ q. R k x ≡ q → IsStrictlySortedBy R (match_ordering q (k ∷ x ∷ xs) (x ∷ xs) (x ∷ insert_key R xs k))) [
    | Less ↦ λ e. ((e, all_above k x xs e s.0), s)
    | Equal ↦ λ e. s
    | Greater ↦ λ e. (all_inserted (λ y. R x y ≡ Less) xs k s.0 (below k x e), sorted_inserted xs k s.1)
  ] refl

  -- what is inserted is among the elements, with those before
  pub list_any-insert_key : (test : K → Bool) (xs : List K) (k : K) → list_any test (insert_key R xs k) ≡ (test k || list_any test xs)
  list_any-insert_key test [] k = refl
  list_any-insert_key test (x ∷ xs) k = elim (R k x) as (λ q. R k x ≡ q → list_any test (match_ordering q (k ∷ x ∷ xs) (x ∷ xs) (x ∷ insert_key R xs k)) ≡ (test k || (test x || list_any test xs))) [
    | Less ↦ λ e. refl
    | Equal ↦ λ e. rw (exact k x e) (twice (test x) (list_any test xs))
    | Greater ↦ λ e. rw (list_any-insert_key test xs k) (turned (test x) (test k) (list_any test xs))
  ] refl
    where
      twice : (a b : Bool) → (a || b) ≡ (a || (a || b))
      twice true b = refl
      twice false b = refl

      turned : (a b c : Bool) → (a || (b || c)) ≡ (b || (a || c))
      turned true true c = refl
      turned true false c = refl
      turned false true c = refl
      turned false false c = refl

  -- an element below all others is none of them
  not_among : (x : K) (xs : List K) → AllByRecursion (λ y. R x y ≡ Less) xs → list_any (λ y. is_eq (R x y)) xs ≡ false
  not_among x [] h = refl
  not_among x (y ∷ xs) h = rw h.0 (not_among x xs h.1)

  -- a head below the other list's head is not among that list, so the elements differ
  heads_meet : (x y : K) (xs ys : List K) → AllByRecursion (λ z. R y z ≡ Less) ys → R x y ≡ Less → (is_eq (R x x) || list_any (λ z. is_eq (R x z)) xs) ≡ (is_eq (R x y) || list_any (λ z. is_eq (R x z)) ys) → ⊥
  heads_meet x y xs ys t e h = true≢false (rw (tied_itself order x, e, not_among x ys (all_above x y ys e t)) at h)

  -- the same elements after equal heads, which are not among the others
  tails_alike : (x y q : K) (xs ys : List K) → x ≡ y → AllByRecursion (λ z. R x z ≡ Less) xs → AllByRecursion (λ z. R y z ≡ Less) ys → (is_eq (R q x) || list_any (λ z. is_eq (R q z)) xs) ≡ (is_eq (R q y) || list_any (λ z. is_eq (R q z)) ys) → list_any (λ z. is_eq (R q z)) xs ≡ list_any (λ z. is_eq (R q z)) ys
  tails_alike x y q xs ys same s t h = without (is_eq (R q x)) (is_eq (R q y)) _ _ (ap (λ z. is_eq (R q z)) same) here h
    where
      without : (a b c d : Bool) → a ≡ b → (a ≡ true → (c ≡ false) × (d ≡ false)) → (a || c) ≡ (b || d) → c ≡ d
      without true b c d e f g = (f refl).0 ∙ sym (f refl).1
      without false true c d e f g = absurd (false≢true e)
      without false false c d e f g = g

      equal_where : (o : Ordering) → is_eq o ≡ true → o ≡ Equal
      equal_where Less e = absurd (false≢true e)
      equal_where Equal e = refl
      equal_where Greater e = absurd (false≢true e)

      here : is_eq (R q x) ≡ true → (list_any (λ z. is_eq (R q z)) xs ≡ false) × (list_any (λ z. is_eq (R q z)) ys ≡ false)
      here e = let is_x : q ≡ x = exact q x (equal_where (R q x) e) in (
        ap (λ k. list_any (λ z. is_eq (R k z)) xs) is_x ∙ not_among x xs s,
        ap (λ k. list_any (λ z. is_eq (R k z)) ys) (is_x ∙ same) ∙ not_among y ys t,
      )

  -- two lists in strict order with the same elements are equal
  pub eq_from_elements : (xs ys : List K) → IsStrictlySortedBy R xs → IsStrictlySortedBy R ys → ((q : K) → list_any (λ y. is_eq (R q y)) xs ≡ list_any (λ y. is_eq (R q y)) ys) → xs ≡ ys
  unfolding IsStrictlySortedBy
  eq_from_elements [] [] s t h = refl
  eq_from_elements [] (y ∷ ys) s t h = absurd (false≢true (h y ∙ rw (tied_itself order y) refl))
  eq_from_elements (x ∷ xs) [] s t h = absurd (true≢false (rw (tied_itself order x) at (h x)))
  eq_from_elements (x ∷ xs) (y ∷ ys) s t h = elim (R x y) as (λ o. R x y ≡ o → x ∷ xs ≡ y ∷ ys) [
    | Less ↦ λ e. absurd (heads_meet x y xs ys t.0 e (h x))
    | Equal ↦ λ e. ap (λ (z : K). z ∷ xs) (exact x y e) ∙ ap (λ (zs : List K). y ∷ zs) (eq_from_elements xs ys s.1 t.1 (λ q. tails_alike x y q xs ys (exact x y e) s.0 t.0 (h q)))
    | Greater ↦ λ e. absurd (heads_meet y x ys xs s.0 (below x y e) (sym (h y)))
  ] refl
