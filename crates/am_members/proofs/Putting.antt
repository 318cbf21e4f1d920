-- Puts of different alerts, in any order.
use Rattle.std.proofs.Common.{◌≡◌, ℕ, Bool, true, false, not, cond, inl, inr, List, [], ◌∷◌, Option, Some, None, Ordering, refl, sym, ap, ◌∙◌}
use Rattle.std.specs.BTreeMap.{insert_entry}
use Rattle.std.specs.BTreeSet.{insert_key}
use Rattle.std.specs.Cmp.{IsEquivalence, eq_by_cmp_equiv}
use Rattle.std.specs.List.{AllByRecursion, IsDistinct, filter, list_any}
use Rattle.std.specs.List.Sorted.{IsPermutation, IsStrictlySortedBy}
use Rattle.std.specs.Map.{keys_of, lookup}
use Rattle.std.specs.Ordering.{is_eq, match_ordering, ordering_reverse}
use Rattle.std.specs.declared.cmp.Ordering.TheVariants.{Less, Equal, Greater}
use Rattle.std.proofs.lemmas.Bool.{cases_Bool, false≢true}
use Rattle.std.proofs.lemmas.List.Kept.{IsStrictlySortedBy-filter}
use Rattle.std.proofs.lemmas.List.Sorted.{Contains-permutation, IsPermutation-map, IsPermutation-sym}
use Rattle.std.proofs.lemmas.Map.Entries.{lookup-filter-keys}
use Rattle.std.proofs.lemmas.Map.Keys.{IsDistinct-IsPermutation, IsDistinct-head, IsDistinct-tail}
use Rattle.std.proofs.lemmas.Map.Views.{Contains-from_lookup, lookup-from_Contains}
use Rattle.am_labels.specs.declared.Label.{Label}
use Rattle.am_labels.specs.Labels.{labels_cmp, labels_total}
use Rattle.am_labels.proofs.InOrder.{labels_exact}
use Rattle.am_labels.proofs.Ordered.{sorted_inserted}
use Rattle.am_members.specs.declared.group.Group.{Group}
use Rattle.am_members.specs.declared.known.Known.{Known}
use Rattle.am_members.specs.Grouped.{AreGrouped, held_at, put_all, put_in}
use Rattle.am_members.specs.Names.{is_group, is_set, without}
use Rattle.am_members.proofs.Grouping.{Alerts, absent_after, grouped_left, put_first}
use Rattle.am_members.proofs.Orders.{set_tells, set-refl, set-sym}
use Rattle.am_members.proofs.Tables.{all_left, below_all, none_found}

some_none : {A X : Type 0} {x : X} → Some x ≡ None → A
some_none h = absurd (cc)

-- ---- a look-up after a put

-- after an entry came whose key wasn't there
found_inserted : (q l : List Label) (v : Known) (es : Alerts) → lookup (is_set l) es ≡ None → lookup (is_set q) (insert_entry labels_cmp es l v) ≡ cond (is_set q l) (Some v) (lookup (is_set q) es)
found_inserted q l v [] absent = refl
found_inserted q l v (e ∷ es) absent = by_order (labels_cmp l e.0) refl (found_inserted q l v es)
  where
    absent_at : (o : Ordering) → labels_cmp l e.0 ≡ o → cond (is_eq o) (Some e.1) (lookup (is_set l) es) ≡ None
    absent_at o is = ap (λ p. cond (is_eq p) (Some e.1) (lookup (is_set l) es)) (sym is) ∙ absent

    by_order : (o : Ordering) → labels_cmp l e.0 ≡ o → (lookup (is_set l) es ≡ None → lookup (is_set q) (insert_entry labels_cmp es l v) ≡ cond (is_set q l) (Some v) (lookup (is_set q) es))
        → lookup (is_set q) (match_ordering o ((l, v) ∷ e ∷ es) ((e.0, v) ∷ es) (e ∷ insert_entry labels_cmp es l v)) ≡ cond (is_set q l) (Some v) (lookup (is_set q) (e ∷ es))
    by_order Less is more = refl
    by_order Equal is more = some_none (absent_at Equal is)
    by_order Greater is more = elim (set_tells q e.0) [
      | inl y ↦
          let apart : is_set q l ≡ false = ap (λ k. is_set k l) y.1 ∙ set-sym e.0 l ∙ ap is_eq is in
          rw (y.0, apart) refl
      | inr n ↦ rw n.0 (more (absent_at Greater is))
    ]

-- after an alert was put
found_put : (q l : List Label) (v : Known) (ys : Alerts) → lookup (is_set q) (put_in l v ys) ≡ cond (is_set q l) (Some v) (lookup (is_set q) ys)
found_put q l v ys =
    found_inserted q l v (without l ys) (absent_after l ys)
    ∙ ap (cond (is_set q l) (Some v)) (lookup-filter-keys (is_set q) (λ k. not (is_set l k)) (not (is_set q l)) same ys)
    ∙ once (is_set q l)
  where
    same : (k : List Label) → is_set q k ≡ true → not (is_set l k) ≡ not (is_set q l)
    same k h = elim (set_tells q k) [
      | inl y ↦ ap not (set-sym l k ∙ ap (λ p. is_set p l) (sym y.1))
      | inr n ↦ absurd (false≢true (sym n.0 ∙ h))
    ]

    once : (b : Bool) → cond b (Some v) (cond (not b) (lookup (is_set q) ys) None) ≡ cond b (Some v) (lookup (is_set q) ys)
    once true = refl
    once false = refl

-- ---- the order after a put

keys-insert_entry : (l : List Label) (v : Known) (es : Alerts) → keys_of (insert_entry labels_cmp es l v) ≡ insert_key labels_cmp (keys_of es) l
keys-insert_entry l v [] = refl
keys-insert_entry l v (e ∷ es) = by_order (labels_cmp l e.0) (keys-insert_entry l v es)
  where
    by_order : (o : Ordering) → keys_of (insert_entry labels_cmp es l v) ≡ insert_key labels_cmp (keys_of es) l
        → keys_of (match_ordering o ((l, v) ∷ e ∷ es) ((e.0, v) ∷ es) (e ∷ insert_entry labels_cmp es l v)) ≡ match_ordering o (l ∷ e.0 ∷ keys_of es) (e.0 ∷ keys_of es) (e.0 ∷ insert_key labels_cmp (keys_of es) l)
    by_order Less more = refl
    by_order Equal more = refl
    by_order Greater more = ap (λ ks. e.0 ∷ ks) more

keys-without : (l : List Label) (es : Alerts) → keys_of (without l es) ≡ filter (λ k. not (is_set l k)) (keys_of es)
keys-without l [] = refl
keys-without l (e ∷ es) = elim (cases_Bool (is_set l e.0)) [
  | inl y ↦ rw y (keys-without l es)
  | inr n ↦ rw n (ap (λ ks. e.0 ∷ ks) (keys-without l es))
]

pub rising_without : (l : List Label) (ys : Alerts) → IsStrictlySortedBy labels_cmp (keys_of ys) → IsStrictlySortedBy labels_cmp (keys_of (without l ys))
rising_without l ys up = rw (keys-without l ys) (IsStrictlySortedBy-filter labels_cmp (λ k. not (is_set l k)) (keys_of ys) up)

pub rising_put : (l : List Label) (v : Known) (ys : Alerts) → IsStrictlySortedBy labels_cmp (keys_of ys) → IsStrictlySortedBy labels_cmp (keys_of (put_in l v ys))
rising_put l v ys up =
    rw (keys-insert_entry l v (without l ys)) (sorted_inserted labels_cmp labels_total labels_exact (keys_of (without l ys)) l (rising_without l ys up))

rising_put_all : (ps ys : Alerts) → IsStrictlySortedBy labels_cmp (keys_of ys) → IsStrictlySortedBy labels_cmp (keys_of (put_all ps ys))
rising_put_all [] ys up = up
rising_put_all (p ∷ ps) ys up = rising_put_all ps (put_in p.0 p.1 ys) (rising_put p.0 p.1 ys up)

-- ---- a put is a write at its place

-- where an alert isn't held
pub put_new : (l : List Label) (v : Known) (ys : Alerts) → lookup (is_set l) ys ≡ None → insert_entry labels_cmp ys l v ≡ put_in l v ys
put_new l v ys absent = ap (λ es. insert_entry labels_cmp es l v) (sym (all_left (is_set l) ys absent))

-- and where it may be
pub put_over : (l : List Label) (v : Known) (ys : Alerts) → IsStrictlySortedBy labels_cmp (keys_of ys) → insert_entry labels_cmp ys l v ≡ put_in l v ys
unfolding IsStrictlySortedBy
put_over l v [] up = refl
put_over l v (y ∷ ys) up = by_order (labels_cmp l y.0) refl (put_over l v ys up.1)
  where
    kept : AllByRecursion (λ k. labels_cmp l k ≡ Less) (keys_of ys) → without l ys ≡ ys
    kept all = all_left (is_set l) ys (none_found labels_cmp labels_total l ys all)

    by_order : (o : Ordering) → labels_cmp l y.0 ≡ o → insert_entry labels_cmp ys l v ≡ put_in l v ys → insert_entry labels_cmp (y ∷ ys) l v ≡ put_in l v (y ∷ ys)
    by_order Less is more = rw (is, is, kept (below_all labels_cmp labels_total l y.0 ys is up.0)) refl
    by_order Equal is more =
        let own : l ≡ y.0 = labels_exact l y.0 is in
        let below : AllByRecursion (λ k. labels_cmp l k ≡ Less) (keys_of ys) = rw own up.0 in
        rw (is, kept below) (ap (λ k. (k, v) ∷ ys) (sym own) ∙ sym (put_first l v ys below))
    by_order Greater is more = rw (is, is) (ap (λ rest. y ∷ rest) more)

-- the index once an alert that is held left its groups
pub left_behind : (ys : Alerts) (old new : List (Group × List (List Label × ℕ))) (l : List Label) (k : Known) → AreGrouped ys old → lookup (is_set l) ys ≡ Some k
    → ((q : Group) → held_at q new ≡ cond (list_any (is_group q) k.groups) (without l (held_at q old)) (held_at q old)) → AreGrouped (without l ys) new
left_behind ys old new l k are there changed = grouped_left ys (without l ys) old new l k are there refl (rising_without l ys are.rising) changed

-- ---- alerts in order are told by what is found

-- what is below a head is found in none of its list
none_below : (k : List Label) (e : List Label × Known) (es : Alerts) → IsStrictlySortedBy labels_cmp (keys_of (e ∷ es)) → labels_cmp k e.0 ≡ Less → lookup (is_set k) (e ∷ es) ≡ None
unfolding IsStrictlySortedBy
none_below k e es up is = rw is (none_found labels_cmp labels_total k es (below_all labels_cmp labels_total k e.0 es is up.0))

found_first : (e : List Label × Known) (es : Alerts) → lookup (is_set e.0) (e ∷ es) ≡ Some e.1
found_first e es = rw (set-refl e.0) refl

same_found : (xs ys : Alerts) → IsStrictlySortedBy labels_cmp (keys_of xs) → IsStrictlySortedBy labels_cmp (keys_of ys) → ((q : List Label) → lookup (is_set q) xs ≡ lookup (is_set q) ys) → xs ≡ ys
unfolding IsStrictlySortedBy
same_found [] [] s t h = refl
same_found [] (y ∷ ys) s t h = some_none (sym (found_first y ys) ∙ sym (h y.0))
same_found (x ∷ xs) [] s t h = some_none (sym (found_first x xs) ∙ h x.0)
same_found (x ∷ xs) (y ∷ ys) s t h = by_order (labels_cmp x.0 y.0) refl (same_found xs ys s.1 t.1)
  where
    some_same : {a b : Known} → Some a ≡ Some b → a ≡ b
    some_same e = cc

    by_order : (o : Ordering) → labels_cmp x.0 y.0 ≡ o → (((q : List Label) → lookup (is_set q) xs ≡ lookup (is_set q) ys) → xs ≡ ys) → x ∷ xs ≡ y ∷ ys
    by_order Less is more = some_none (sym (found_first x xs) ∙ h x.0 ∙ none_below x.0 y ys t is)
    by_order Greater is more = some_none (sym (found_first y ys) ∙ sym (h y.0) ∙ none_below y.0 x xs s (labels_total.antisymm y.0 x.0 ∙ ap ordering_reverse is))
    by_order Equal is more =
        let key : x.0 ≡ y.0 = labels_exact x.0 y.0 is in
        let value : x.1 ≡ y.1 = some_same (sym (found_first x xs) ∙ h x.0 ∙ ap (λ k. lookup (is_set k) (y ∷ ys)) key ∙ found_first y ys) in
        let heads : x ≡ y = ap (λ (k : List Label). let e : List Label × Known = (k, x.1) in e) key ∙ ap (λ (v : Known). let e : List Label × Known = (y.0, v) in e) value in
        ap (λ (e : List Label × Known). e ∷ xs) heads ∙ ap (λ (zs : Alerts). y ∷ zs) (more (λ q. elim (set_tells q x.0) [
          | inl here ↦
              ap (λ k. lookup (is_set k) xs) here.1 ∙ none_found labels_cmp labels_total x.0 xs s.0
              ∙ sym (ap (λ k. lookup (is_set k) ys) (here.1 ∙ key) ∙ none_found labels_cmp labels_total y.0 ys t.0)
          | inr n ↦
              let apart : is_set q y.0 ≡ false = ap (is_set q) (sym key) ∙ n.0 in
              rw (n.0, apart) at (h q)
        ]))

-- ---- several puts

first_of : Option Known → Option Known → Option Known
first_of None o = o
first_of (Some k) o = Some k

missing : (l : List Label) (ps : Alerts) → AllByRecursion (λ k. is_set l k ≡ false) (keys_of ps) → lookup (is_set l) ps ≡ None
missing l [] all = refl
missing l (p ∷ ps) all = rw all.0 (missing l ps all.1)

found_put_all : (q : List Label) (ps ys : Alerts) → IsDistinct is_set (keys_of ps) → lookup (is_set q) (put_all ps ys) ≡ first_of (lookup (is_set q) ps) (lookup (is_set q) ys)
unfolding first_of
found_put_all q [] ys apart = refl
found_put_all q (p ∷ ps) ys apart =
    found_put_all q ps (put_in p.0 p.1 ys) (IsDistinct-tail is_set p.0 (keys_of ps) apart)
    ∙ ap (first_of (lookup (is_set q) ps)) (found_put q p.0 p.1 ys)
    ∙ elim (set_tells q p.0) [
      | inl y ↦
          let none : lookup (is_set q) ps ≡ None = ap (λ k. lookup (is_set k) ps) y.1 ∙ missing p.0 ps (IsDistinct-head is_set p.0 (keys_of ps) apart) in
          rw (y.0, none) refl
      | inr n ↦ rw n.0 refl
    ]

-- a look-up among puts in another order
found_permuted : (q : List Label) (ps qs : Alerts) → IsPermutation ps qs → IsDistinct is_set (keys_of ps) → IsDistinct is_set (keys_of qs) → lookup (is_set q) ps ≡ lookup (is_set q) qs
found_permuted q ps qs permuted apart other = by_both (lookup (is_set q) ps) (lookup (is_set q) qs) refl refl
  where
    laws : IsEquivalence is_set
    laws = eq_by_cmp_equiv labels_total

    exact : (x y : List Label) → is_set x y ≡ true → x ≡ y
    exact x y h = elim (set_tells x y) [ inl s ↦ s.1 | inr n ↦ absurd (false≢true (sym n.0 ∙ h)) ]

    along : (xs zs : Alerts) → IsPermutation xs zs → IsDistinct is_set (keys_of zs) → (v : Known) → lookup (is_set q) xs ≡ Some v → lookup (is_set q) zs ≡ Some v
    along xs zs p d v h = lookup-from_Contains laws q v zs d (Contains-permutation xs zs (q, v) p (Contains-from_lookup exact q v xs h))

    by_both : (o r : Option Known) → lookup (is_set q) ps ≡ o → lookup (is_set q) qs ≡ r → lookup (is_set q) ps ≡ lookup (is_set q) qs
    by_both (Some v) r h k = h ∙ sym (along ps qs permuted other v h)
    by_both None (Some v) h k = along qs ps (IsPermutation-sym ps qs permuted) apart v k ∙ sym k
    by_both None None h k = h ∙ sym k

pub put_in_any_order : (ps qs ys : Alerts) → IsPermutation ps qs → IsDistinct is_set (keys_of ps) → IsStrictlySortedBy labels_cmp (keys_of ys) → put_all ps ys ≡ put_all qs ys
put_in_any_order ps qs ys permuted apart up =
    let other : IsDistinct is_set (keys_of qs) = IsDistinct-IsPermutation is_set set-sym (keys_of ps) (keys_of qs) (IsPermutation-map (λ (e : List Label × Known). e.0) ps qs permuted) apart in
    same_found (put_all ps ys) (put_all qs ys) (rising_put_all ps ys up) (rising_put_all qs ys up) (λ q.
    found_put_all q ps ys apart ∙ ap (λ o. first_of o (lookup (is_set q) ys)) (found_permuted q ps qs permuted apart other) ∙ sym (found_put_all q qs ys other))
