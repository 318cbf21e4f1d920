-- Lists of items whose keys rise: look-ups by key, and that these decide the list.
use Rattle.std.proofs.Common.{◌≡◌, Bool, true, false, ◌||◌, cond, List, [], ◌∷◌, Option, Some, None, refl, sym, ap, ◌∙◌, subst}
use Rattle.std.specs.List.{AllByRecursion, cons_option, filter_map, list_any}
use Rattle.std.specs.List.Sorted.{IsStrictlySortedBy}
use Rattle.std.specs.Option.{is_some}
use Rattle.std.specs.Ordering.{is_eq}
use Rattle.std.specs.declared.cmp.Ordering.TheVariants.{Less}
use Rattle.std.proofs.lemmas.Bool.{cond-false, cond-true, false≢true}
use Rattle.am_item.specs.declared.item.Item.{Item}
use Rattle.am_item.specs.Best.{IsRising, item_at}
use Rattle.am_item.specs.Key.{Key, has_key, key_cmp, key_of}
use Rattle.am_item.proofs.Greatest.{by_cases, some_same}
use Rattle.am_item.proofs.Keys.{below_turned, by_order, key_itself, key_same}
use Rattle.am_item.proofs.Order.{keys_exact, keys_total}

-- each item of the list has a greater key
abbrev pub AllAbove : Key → List Item → Type 0
AllAbove k xs = AllByRecursion (λ y. key_cmp k (key_of y) ≡ Less) xs

-- what is below the first of the keys is below all
pub above_trans : (k q : Key) (xs : List Item) → key_cmp k q ≡ Less → AllAbove q xs → AllAbove k xs
above_trans k q [] h all = tt
above_trans k q (x ∷ xs) h all = (keys_total.trans k q (key_of x) h all.0, above_trans k q xs h all.1)

-- no item has a key that is below all of them
pub none_above : (k : Key) (xs : List Item) → AllAbove k xs → item_at k xs ≡ None
none_above k [] all = refl
none_above k (x ∷ xs) all = cond-false _ (Some x) (item_at k xs) (ap is_eq all.0) ∙ none_above k xs all.1

-- the first item of a list is found by its key
pub first_at : (x : Item) (xs : List Item) → item_at (key_of x) (x ∷ xs) ≡ Some x
first_at x xs = cond-true _ (Some x) (item_at (key_of x) xs) (key_itself (key_of x))

-- an item with another key is passed over
pub later_at : (k : Key) (x : Item) (xs : List Item) → has_key k x ≡ false → item_at k (x ∷ xs) ≡ item_at k xs
later_at k x xs h = cond-false _ (Some x) (item_at k xs) h

-- an item with the key is found
pub here_at : (k : Key) (x : Item) (xs : List Item) → has_key k x ≡ true → item_at k (x ∷ xs) ≡ Some x
here_at k x xs h = cond-true _ (Some x) (item_at k xs) h

-- nothing is no item
absent : {G : Type 0} {x : Item} → None ≡ Some x → G
absent h = absurd (false≢true (ap is_some h))

-- look-ups that agree at the head's key agree behind it
tails_agree : (x y : Item) (xs ys : List Item) → key_of x ≡ key_of y → AllAbove (key_of x) xs → AllAbove (key_of y) ys
    → ((k : Key) → item_at k (x ∷ xs) ≡ item_at k (y ∷ ys)) → (k : Key) → item_at k xs ≡ item_at k ys
tails_agree x y xs ys same up up' agree k =
    by_cases (has_key k x)
    (λ h.
    let at_x = key_same k (key_of x) h in
    none_above k xs (subst (λ q. AllAbove q xs) (sym at_x) up) ∙ sym (none_above k ys (subst (λ q. AllAbove q ys) (sym (at_x ∙ same)) up')))
    (λ h. sym (later_at k x xs h) ∙ agree k ∙ later_at k y ys (ap (λ q. is_eq (key_cmp k q)) (sym same) ∙ h))

-- two rising lists with equal look-ups are equal
pub rising_same : (xs ys : List Item) → IsRising xs → IsRising ys → ((k : Key) → item_at k xs ≡ item_at k ys) → xs ≡ ys
unfolding IsStrictlySortedBy
rising_same [] [] up up' agree = refl
rising_same [] (y ∷ ys) up up' agree = absent (agree (key_of y) ∙ first_at y ys)
rising_same (x ∷ xs) [] up up' agree = absent (sym (agree (key_of x)) ∙ first_at x xs)
rising_same (x ∷ xs) (y ∷ ys) up up' agree =
    by_order (key_cmp (key_of x) (key_of y))
    (λ e. absent (sym (none_above (key_of x) (y ∷ ys) (e, above_trans (key_of x) (key_of y) ys e up'.0)) ∙ sym (agree (key_of x)) ∙ first_at x xs))
    (λ e.
    let same = keys_exact (key_of x) (key_of y) e in
    let heads = some_same x y (sym (first_at x xs) ∙ agree (key_of x) ∙ here_at (key_of x) y ys (ap is_eq e)) in
    ap (λ z. z ∷ xs) heads ∙ ap (λ zs. y ∷ zs) (rising_same xs ys up.1 up'.1 (tails_agree x y xs ys same up.0 up'.0 agree)))
    (λ e.
    let turned = below_turned (key_of x) (key_of y) e in
    absent (sym (none_above (key_of y) (x ∷ xs) (turned, above_trans (key_of y) (key_of x) xs turned up.0)) ∙ agree (key_of y) ∙ first_at y ys))

-- ---- a list made of keys, one item for each at most

module _ (f : Key → Option Item) (keyed : (k : Key) (x : Item) → f k ≡ Some x → key_of x ≡ k) where
  -- one step of the next lemma
  above_next : (k q : Key) (xs : List Item) (o : Option Item) → f q ≡ o → key_cmp k q ≡ Less → AllAbove k xs → AllAbove k (cons_option o xs)
  above_next k q xs None e h all = all
  above_next k q xs (Some x) e h all = (ap (key_cmp k) (keyed q x e) ∙ h, all)

  -- items made of greater keys have greater keys
  above_made : (k : Key) (qs : List Key) → AllByRecursion (λ q. key_cmp k q ≡ Less) qs → AllAbove k (filter_map f qs)
  above_made k [] all = tt
  above_made k (q ∷ qs) all = above_next k q (filter_map f qs) (f q) refl all.0 (above_made k qs all.1)

  -- one step of the next lemma
  rising_next : (q : Key) (xs : List Item) (o : Option Item) → f q ≡ o → AllAbove q xs → IsRising xs → IsRising (cons_option o xs)
  unfolding IsStrictlySortedBy
  rising_next q xs None e all up = up
  rising_next q xs (Some x) e all up = (subst (λ k. AllAbove k xs) (sym (keyed q x e)) all, up)

  -- items made of rising keys rise
  pub rising_made : (qs : List Key) → IsStrictlySortedBy key_cmp qs → IsRising (filter_map f qs)
  unfolding IsStrictlySortedBy
  rising_made [] s = tt
  rising_made (q ∷ qs) s = rising_next q (filter_map f qs) (f q) refl (above_made q qs s.0) (rising_made qs s.1)

  -- nothing on a test is nothing
  nothing : (b : Bool) (o : Option Item) → o ≡ None → cond b o None ≡ None
  nothing true o h = h
  nothing false o h = refl

  -- one step of the next lemma
  at_next : (k q : Key) (qs : List Key) (o : Option Item) → f q ≡ o → item_at k (filter_map f qs) ≡ cond (list_any (λ p. is_eq (key_cmp k p)) qs) (f k) None
      → item_at k (cons_option o (filter_map f qs)) ≡ cond (is_eq (key_cmp k q) || list_any (λ p. is_eq (key_cmp k p)) qs) (f k) None
  at_next k q qs None e ih =
      let any = list_any (λ p. is_eq (key_cmp k p)) qs in
      by_cases (is_eq (key_cmp k q))
      (λ h.
      let here : f k ≡ None = ap f (key_same k q h) ∙ e in
      ih ∙ nothing any (f k) here ∙ sym (nothing (is_eq (key_cmp k q) || any) (f k) here))
      (λ h. ih ∙ ap (λ b. cond (b || any) (f k) None) (sym h))
  at_next k q qs (Some x) e ih =
      let any = list_any (λ p. is_eq (key_cmp k p)) qs in
      let test : has_key k x ≡ is_eq (key_cmp k q) = ap (λ p. is_eq (key_cmp k p)) (keyed q x e) in
      by_cases (is_eq (key_cmp k q))
      (λ h. here_at k x (filter_map f qs) (test ∙ h) ∙ sym e ∙ ap f (sym (key_same k q h)) ∙ ap (λ b. cond (b || any) (f k) None) (sym h))
      (λ h. later_at k x (filter_map f qs) (test ∙ h) ∙ ih ∙ ap (λ b. cond (b || any) (f k) None) (sym h))

  -- a look-up gives what was made of the key
  pub at_made : (k : Key) (qs : List Key) → item_at k (filter_map f qs) ≡ cond (list_any (λ p. is_eq (key_cmp k p)) qs) (f k) None
  at_made k [] = refl
  at_made k (q ∷ qs) = at_next k q qs (f q) refl (at_made k qs)
