-- The pairs of a book, tenant by tenant.
use Rattle.std.proofs.Common.{◌≡◌, ℕ, Bool, true, cond, List, [], ◌∷◌, ◌++◌, Option, Some, None, Ordering, Result, Ok, Err, OnErr, OnOk, refl, sym, ap, ◌∙◌, subst}
use Rattle.std.specs.BTreeMap.{BTreeMap, IsOrdered, get, insert_entry, is_at}
use Rattle.std.specs.Cmp.Lexicographic.{slice_cmp}
use Rattle.std.specs.BTreeSet.{BTreeSet}
use Rattle.std.specs.List.{All, AllByRecursion, filter}
use Rattle.std.specs.List.Sorted.{IsStrictlySortedBy}
use Rattle.std.specs.Map.{keys_of, lookup, set_value, values_of}
use Rattle.std.specs.Option.{IfSome, unwrap_or}
use Rattle.std.specs.Ordering.{is_eq, nat_cmp}
use Rattle.std.specs.declared.cmp.Ordering.TheVariants.{Less}
use Rattle.std.proofs.lemmas.Bool.{cond-false, cond-true}
use Rattle.std.proofs.lemmas.List.{append-nil}
use Rattle.std.proofs.lemmas.Map.Views.{All-values-insert_entry, All-values-set_value, IfSome-lookup_from_All}
use Rattle.am_tenant.specs.Names.{same}
use Rattle.am_tenant.proofs.Same.{eq_from_same, is_eq-name_cmp, same-sym}
use Rattle.am_item.specs.declared.item.Item.{Item}
use Rattle.am_item.specs.Best.{IsRising, joined}
use Rattle.am_book.specs.Book.{AreHeld, AreTold, found_items, held_of, items_of, pairs_in, pairs_of, with_tenant}
use Rattle.am_book.specs.Row.{has_row, tells}
use Rattle.am_book.specs.declared.row.Row.{Row}
use Rattle.am_item.proofs.Greatest.{by_cases}
use Rattle.am_item.proofs.Joined.{rising-joined}

-- a tenant's pairs in front of others
of_one : (t s : List ℕ) (xs : List Item) (rest : List (List ℕ × Item)) → items_of t (with_tenant s xs ++ rest) ≡ cond (same t s) (xs ++ items_of t rest) (items_of t rest)
unfolding items_of
of_one t s [] rest = by_cases (same t s) (λ e. sym (cond-true _ (items_of t rest) (items_of t rest) e)) (λ e. sym (cond-false _ (items_of t rest) (items_of t rest) e))
of_one t s (x ∷ xs) rest =
    by_cases (same t s)
    (λ e.
    cond-true _ (x ∷ items_of t (with_tenant s xs ++ rest)) (items_of t (with_tenant s xs ++ rest)) e
    ∙ ap (λ zs. x ∷ zs) (of_one t s xs rest ∙ cond-true _ (xs ++ items_of t rest) (items_of t rest) e)
    ∙ sym (cond-true _ (x ∷ (xs ++ items_of t rest)) (items_of t rest) e))
    (λ e.
    cond-false _ (x ∷ items_of t (with_tenant s xs ++ rest)) (items_of t (with_tenant s xs ++ rest)) e
    ∙ of_one t s xs rest
    ∙ cond-false _ (xs ++ items_of t rest) (items_of t rest) e
    ∙ sym (cond-false _ (x ∷ (xs ++ items_of t rest)) (items_of t rest) e))

-- lists of greater tenants have nothing of this one
of_greater : (t : List ℕ) (es : List (List ℕ × List Item)) → AllByRecursion (λ s. slice_cmp nat_cmp t s ≡ Less) (keys_of es) → items_of t (pairs_in es) ≡ []
unfolding items_of
of_greater t [] all = refl
of_greater t (e ∷ es) all =
    of_one t e.0 e.1 (pairs_in es)
    ∙ cond-false _ (e.1 ++ items_of t (pairs_in es)) (items_of t (pairs_in es)) (sym (is_eq-name_cmp t e.0) ∙ ap is_eq all.0)
    ∙ of_greater t es all.1

-- what pairs have of a tenant is what a look-up of the tenant gives
items_of-pairs_in : (t : List ℕ) (es : List (List ℕ × List Item)) → IsStrictlySortedBy (slice_cmp nat_cmp) (keys_of es) → items_of t (pairs_in es) ≡ found_items (lookup (is_at (slice_cmp nat_cmp t)) es)
unfolding items_of IsStrictlySortedBy
items_of-pairs_in t [] s = refl
items_of-pairs_in t (e ∷ es) s =
    of_one t e.0 e.1 (pairs_in es)
    ∙ by_cases (same t e.0)
    (λ h.
    let rest : items_of t (pairs_in es) ≡ [] = of_greater t es (subst (λ q. AllByRecursion (λ p. slice_cmp nat_cmp q p ≡ Less) (keys_of es)) (sym (eq_from_same t e.0 h)) s.0) in
    cond-true _ (e.1 ++ items_of t (pairs_in es)) (items_of t (pairs_in es)) h
    ∙ ap (λ zs. e.1 ++ zs) rest ∙ append-nil e.1
    ∙ sym (ap found_items (cond-true _ (Some e.1) (lookup (is_at (slice_cmp nat_cmp t)) es) (is_eq-name_cmp t e.0 ∙ h))))
    (λ h.
    cond-false _ (e.1 ++ items_of t (pairs_in es)) (items_of t (pairs_in es)) h
    ∙ items_of-pairs_in t es s.1
    ∙ sym (ap found_items (cond-false _ (Some e.1) (lookup (is_at (slice_cmp nat_cmp t)) es) (is_eq-name_cmp t e.0 ∙ h))))

-- the order of tenants
abbrev tenants : List ℕ → List ℕ → Ordering
tenants = slice_cmp nat_cmp

-- what a book has of a tenant is what a look-up of the tenant gives
pub items_of-pairs_of : (t : List ℕ) (m : BTreeMap (List ℕ) (List Item)) → IsOrdered tenants m → items_of t (pairs_of m) ≡ found_items (get tenants m t)
unfolding pairs_of
items_of-pairs_of t m ordered = items_of-pairs_in t m.entries ordered

-- ---- one item more

-- a list that rises, or a new one without items, rises
found_rises : (o : Option (List Item)) (fresh : List Item) → fresh ≡ [] → IfSome o (λ held. IsRising held) → IsRising (unwrap_or o fresh)
unfolding IsStrictlySortedBy
found_rises None fresh none all = rw none tt
found_rises (Some held) fresh none all = all

-- a tenant's list rises, and a new one too
pub rising_found : (m : BTreeMap (List ℕ) (List Item)) (tenant : List ℕ) (fresh : List Item) → AreHeld m → fresh ≡ [] → IsRising (unwrap_or (get tenants m tenant) fresh)
rising_found m tenant fresh are none = found_rises (get tenants m tenant) fresh none (IfSome-lookup_from_All (λ held. IsRising held) (is_at (tenants tenant)) m.entries are.rising)

-- a list that an item has joined rises, and one that stayed too
pub rising_after : {T E : Type 0} (r : Result T E) (was now : List Item) (item : Item) → OnOk r (now ≡ joined was item) → OnErr r (now ≡ was) → IsRising was → IsRising now
rising_after (Ok _) was now item h _ up = rw h (rising-joined was item)
rising_after (Err _) was now item _ h up = rw h up

-- a list found, or a new one without items, has the items of the look-up
in_found : (o : Option (List Item)) (fresh : List Item) → fresh ≡ [] → unwrap_or o fresh ≡ found_items o
in_found None fresh none = none
in_found (Some held) fresh none = refl

-- .. which are those that a book has of the tenant
pub items_found : (m : BTreeMap (List ℕ) (List Item)) (tenant : List ℕ) (was fresh : List Item) → AreHeld m → fresh ≡ [] → was ≡ unwrap_or (get tenants m tenant) fresh → was ≡ items_of tenant (pairs_of m)
items_found m tenant was fresh are none found = found ∙ in_found (get tenants m tenant) fresh none ∙ sym (items_of-pairs_of tenant m are.ordered)

module _ (m n : BTreeMap (List ℕ) (List Item)) (tenant : List ℕ) (now : List Item) where
  -- a rising list put into a book
  pub held_after : AreHeld m → IsOrdered tenants n → n.entries ≡ insert_entry tenants m.entries tenant now → IsRising now → AreHeld n
  held_after are ordered entries up = record { ordered = ordered; rising = rw entries (All-values-insert_entry tenants tenant now (λ held. IsRising held) m.entries are.rising up) }

  -- what a book has of each tenant once an item has joined the list of one
  pub items_after : (was fresh : List Item) (item : Item) → AreHeld m → IsOrdered tenants n
      → ((q : List ℕ) → get tenants n q ≡ cond (is_at (tenants tenant) q) (Some now) (get tenants m q))
      → fresh ≡ [] → was ≡ unwrap_or (get tenants m tenant) fresh → now ≡ joined was item
      → (t : List ℕ) → items_of t (pairs_of n) ≡ cond (same t tenant) (joined (items_of t (pairs_of m)) item) (items_of t (pairs_of m))
  items_after was fresh item are ordered gets none found joins t =
      let old = items_of t (pairs_of m) in
      let test : is_at (tenants tenant) t ≡ same t tenant = is_eq-name_cmp tenant t ∙ same-sym tenant t in
      items_of-pairs_of t n ordered ∙ ap found_items (gets t)
      ∙ by_cases (same t tenant)
      (λ h.
      let held : was ≡ old = items_found m tenant was fresh are none found ∙ ap (λ q. items_of q (pairs_of m)) (sym (eq_from_same t tenant h)) in
      ap found_items (cond-true _ (Some now) (get tenants m t) (test ∙ h)) ∙ joins ∙ ap (λ xs. joined xs item) held ∙ sym (cond-true _ (joined old item) old h))
      (λ h.
      ap found_items (cond-false _ (Some now) (get tenants m t) (test ∙ h)) ∙ sym (items_of-pairs_of t m are.ordered) ∙ sym (cond-false _ (joined old item) old h))

  -- what a book has of each tenant once the list of one was put back as it was
  pub items_put_back : (was fresh : List Item) → AreHeld m → IsOrdered tenants n
      → ((q : List ℕ) → get tenants n q ≡ cond (is_at (tenants tenant) q) (Some now) (get tenants m q))
      → fresh ≡ [] → was ≡ unwrap_or (get tenants m tenant) fresh → now ≡ was
      → (t : List ℕ) → items_of t (pairs_of n) ≡ items_of t (pairs_of m)
  items_put_back was fresh are ordered gets none found back t =
      let test : is_at (tenants tenant) t ≡ same t tenant = is_eq-name_cmp tenant t ∙ same-sym tenant t in
      items_of-pairs_of t n ordered ∙ ap found_items (gets t)
      ∙ by_cases (same t tenant)
      (λ h.
      let held : was ≡ items_of t (pairs_of m) = items_found m tenant was fresh are none found ∙ ap (λ q. items_of q (pairs_of m)) (sym (eq_from_same t tenant h)) in
      ap found_items (cond-true _ (Some now) (get tenants m t) (test ∙ h)) ∙ back ∙ held)
      (λ h. ap found_items (cond-false _ (Some now) (get tenants m t) (test ∙ h)) ∙ sym (items_of-pairs_of t m are.ordered))

-- equal maps have the same items of a tenant
pub items_same : (t : List ℕ) (n m : BTreeMap (List ℕ) (List Item)) (xs : List Item) → items_of t (pairs_of m) ≡ xs → n ≡ m → items_of t (pairs_of n) ≡ xs
items_same t n m xs h e = ap (λ k. items_of t (pairs_of k)) e ∙ h

-- maps of the same entries have the same items of a tenant
pub items_unchanged : (t : List ℕ) (n m : BTreeMap (List ℕ) (List Item)) → n.entries ≡ m.entries → items_of t (pairs_of n) ≡ items_of t (pairs_of m)
unfolding pairs_of
items_unchanged t n m e = ap (λ es. items_of t (pairs_in es)) e

-- what is so whatever a call returned is so at its error
pub at_error : {T E X : Type 0} (r : Result T E) → X → OnErr r X
at_error (Ok _) x = tt
at_error (Err _) x = x

-- ---- an item less

-- what is held of a tenant rises
pub rising_of : (t : List ℕ) (m : BTreeMap (List ℕ) (List Item)) → AreHeld m → IsRising (held_of t m)
unfolding IsStrictlySortedBy
rising_of t m are = in_rising (get tenants m t) (IfSome-lookup_from_All (λ held. IsRising held) (is_at (tenants t)) m.entries are.rising)
  where
    in_rising : (o : Option (List Item)) → IfSome o (λ held. IsRising held) → IsRising (found_items o)
    in_rising None all = tt
    in_rising (Some held) all = all

-- what was found of a tenant rises
pub rising_there : (m : BTreeMap (List ℕ) (List Item)) (tenant : List ℕ) (found : List Item) → AreHeld m → Some found ≡ get tenants m tenant → IsRising found
rising_there m tenant found are is = subst IsRising (ap found_items (sym is)) (rising_of tenant m are)

-- a rising list written to a tenant that is there
pub held_written : (m n : BTreeMap (List ℕ) (List Item)) (tenant : List ℕ) (now : List Item) → AreHeld m → IsOrdered tenants n → n.entries ≡ set_value (is_at (tenants tenant)) m.entries now → IsRising now → AreHeld n
held_written m n tenant now are ordered entries up =
    record { ordered = ordered; rising = rw entries (All-values-set_value (is_at (tenants tenant)) (λ held. IsRising held) m.entries now are.rising up) }

-- what is held of each tenant, once the items of one were passed through a test
pub held_passed : (m n : BTreeMap (List ℕ) (List Item)) (tenant : List ℕ) (p : Item → Bool) (found now : List Item) → Some found ≡ get tenants m tenant → now ≡ filter p found
    → ((q : List ℕ) → get tenants n q ≡ cond (is_at (tenants tenant) q) (Some now) (get tenants m q))
    → (t : List ℕ) → held_of t n ≡ cond (same t tenant) (filter p (held_of t m)) (held_of t m)
held_passed m n tenant p found now there is gets t =
    let test : is_at (tenants tenant) t ≡ same t tenant = is_eq-name_cmp tenant t ∙ same-sym tenant t in
    ap found_items (gets t)
    ∙ by_cases (same t tenant)
    (λ h.
    ap found_items (cond-true _ (Some now) (get tenants m t) (test ∙ h)) ∙ is
    ∙ ap (filter p) (ap found_items there ∙ ap (λ q. held_of q m) (sym (eq_from_same t tenant h)))
    ∙ sym (cond-true _ (filter p (held_of t m)) (held_of t m) h))
    (λ h. ap found_items (cond-false _ (Some now) (get tenants m t) (test ∙ h)) ∙ sym (cond-false _ (filter p (held_of t m)) (held_of t m) h))

-- .. and where they stayed
pub held_stayed : (m n : BTreeMap (List ℕ) (List Item)) (tenant : List ℕ) (found now : List Item) → Some found ≡ get tenants m tenant → now ≡ found
    → ((q : List ℕ) → get tenants n q ≡ cond (is_at (tenants tenant) q) (Some now) (get tenants m q)) → (t : List ℕ) → held_of t n ≡ held_of t m
held_stayed m n tenant found now there is gets t =
    let test : is_at (tenants tenant) t ≡ same t tenant = is_eq-name_cmp tenant t ∙ same-sym tenant t in
    ap found_items (gets t)
    ∙ by_cases (same t tenant)
    (λ h. ap found_items (cond-true _ (Some now) (get tenants m t) (test ∙ h)) ∙ is ∙ ap found_items there ∙ ap (λ q. held_of q m) (sym (eq_from_same t tenant h)))
    (λ h. ap found_items (cond-false _ (Some now) (get tenants m t) (test ∙ h)))

-- of a tenant that isn't there nothing is left out
pub held_missed : (m : BTreeMap (List ℕ) (List Item)) (tenant : List ℕ) (p : Item → Bool) → None ≡ get tenants m tenant → (t : List ℕ) → held_of t m ≡ cond (same t tenant) (filter p (held_of t m)) (held_of t m)
held_missed m tenant p none t =
    by_cases (same t tenant)
    (λ h.
    let empty : held_of t m ≡ [] = ap (λ q. held_of q m) (eq_from_same t tenant h) ∙ sym (ap found_items none) in
    empty ∙ sym (ap (filter p) empty) ∙ sym (cond-true _ (filter p (held_of t m)) (held_of t m) h))
    (λ h. sym (cond-false _ (filter p (held_of t m)) (held_of t m) h))

-- ---- rows

-- the rows of a tenant tell what was found of it, or a new list without items
pub told_found : (m : BTreeMap (List ℕ) (List Item)) (rows : BTreeSet Row) (tenant : List ℕ) (was fresh : List Item) → AreTold rows m → fresh ≡ [] → was ≡ unwrap_or (get tenants m tenant) fresh
    → (row : Row) → same row.tenant tenant ≡ true → has_row rows row ≡ tells row was
told_found m rows tenant was fresh told none found row h =
    told row ∙ ap (tells row) (ap (λ q. held_of q m) (eq_from_same row.tenant tenant h) ∙ sym (found ∙ found_or_fresh (get tenants m tenant)))
  where
    found_or_fresh : (o : Option (List Item)) → unwrap_or o fresh ≡ found_items o
    found_or_fresh None = none
    found_or_fresh (Some held) = refl

-- rows that tell the new list of a tenant tell the book with that list
pub told_put : (m n : BTreeMap (List ℕ) (List Item)) (rows rows' : BTreeSet Row) (tenant : List ℕ) (now : List Item) → AreTold rows m
    → ((q : List ℕ) → get tenants n q ≡ cond (is_at (tenants tenant) q) (Some now) (get tenants m q))
    → ((row : Row) → has_row rows' row ≡ cond (same row.tenant tenant) (tells row now) (has_row rows row)) → AreTold rows' n
told_put m n rows rows' tenant now told gets came row =
    let test : is_at (tenants tenant) row.tenant ≡ same row.tenant tenant = is_eq-name_cmp tenant row.tenant ∙ same-sym tenant row.tenant in
    came row
    ∙ by_cases (same row.tenant tenant)
    (λ h.
    cond-true _ (tells row now) (has_row rows row) h
    ∙ sym (ap (λ o. tells row (found_items o)) (gets row.tenant ∙ cond-true _ (Some now) (get tenants m row.tenant) (test ∙ h))))
    (λ h.
    cond-false _ (tells row now) (has_row rows row) h ∙ told row
    ∙ sym (ap (λ o. tells row (found_items o)) (gets row.tenant ∙ cond-false _ (Some now) (get tenants m row.tenant) (test ∙ h))))

-- maps of the same entries hold the same
pub held_unchanged : (n m : BTreeMap (List ℕ) (List Item)) → n.entries ≡ m.entries → AreHeld m → AreHeld n
held_unchanged n m e are = record {
  ordered = subst (λ es. IsStrictlySortedBy tenants (keys_of es)) (sym e) are.ordered;
  rising = subst (λ es. All (λ held. IsRising held) (values_of es)) (sym e) are.rising;
}

pub told_unchanged : (n m : BTreeMap (List ℕ) (List Item)) (rows : BTreeSet Row) → n.entries ≡ m.entries → AreTold rows m → AreTold rows n
told_unchanged n m rows e told row = told row ∙ sym (ap (λ es. tells row (found_items (lookup (is_at (tenants row.tenant)) es))) e)

-- what is so of a map and its rows is so of an equal map
pub whole_same : (n m : BTreeMap (List ℕ) (List Item)) (rows : BTreeSet Row) (nothing : List Item) → AreHeld m → nothing ≡ [] → AreTold rows m → n ≡ m → AreHeld n × (nothing ≡ []) × AreTold rows n
whole_same n m rows nothing are none told e = (subst AreHeld (sym e) are, none, subst (AreTold rows) (sym e) told)
