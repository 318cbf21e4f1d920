-- Lists of entries in the order of their keys: what is found once one came, and that those in which the same is found are equal.
use Rattle.std.proofs.Common.{◌≡◌, Bool, true, false, cond, inl, inr, List, [], ◌∷◌, Ordering, Option, Some, None, map, refl, sym, ap, ◌∙◌}
use Rattle.std.specs.BTreeMap.{insert_entry, is_at}
use Rattle.std.specs.Cmp.{Equal-is, IsTotalOrder}
use Rattle.std.specs.List.{AllByRecursion}
use Rattle.std.specs.List.Sorted.{IsStrictlySortedBy}
use Rattle.std.specs.Map.{keys_of, lookup}
use Rattle.std.specs.Option.{is_some, option_map, unwrap_or}
use Rattle.std.specs.Ordering.{eq_by_cmp, is_eq, match_ordering, ordering_reverse}
use Rattle.std.specs.declared.cmp.Ordering.TheVariants.{Less, Equal, Greater}
use Rattle.std.proofs.lemmas.Bool.{cases_Bool, true≢false}
use Rattle.std.proofs.lemmas.Cmp.{eq_by_cmp_equiv, tied_itself}
use Rattle.std.proofs.lemmas.Map.{lookup-none}
use Rattle.std.proofs.lemmas.Map.Entries.{lookup_head, lookup_tail, none_below_head, none_past_head}
use Rattle.std.proofs.lemmas.Map.Keys.{IsDistinct-from_sorted, sorted_tail}
use Rattle.std.proofs.lemmas.Map.Lookups.{CmpEqualImpliesEq}

not_none : {X A : Type 0} (x : X) → Some x ≡ None → A
not_none x h = absurd (true≢false (ap is_some h))

module _ {K : Type 0} (R : K → K → Ordering) (total : IsTotalOrder R) (exact : CmpEqualImpliesEq R) where
  module _ {X : Type 0} where
    abbrev pub find : List (K × X) → K → Option X
    find es q = lookup (is_at (R q)) es

    -- ---- an entry that came

    pub found_put : (k : K) (v : X) (es : List (K × X)) (q : K) → find (insert_entry R es k v) q ≡ cond (is_eq (R q k)) (Some v) (find es q)
    found_put k v [] q = refl
    found_put k v (e ∷ es) q = by_order (R k e.0) refl (found_put k v es q)
      where
        same : R k e.0 ≡ Equal → k ≡ e.0
        same is = exact k e.0 is

        below : (b : Bool) → is_eq (R q e.0) ≡ b → R k e.0 ≡ Greater → cond b (Some e.1) (cond (is_eq (R q k)) (Some v) (find es q)) ≡ cond (is_eq (R q k)) (Some v) (cond b (Some e.1) (find es q))
        below false apart is = refl
        below true there is =
            let q_is : q ≡ e.0 = exact q e.0 ((Equal-is (R q e.0)).0 there) in
            let other : R q k ≡ Less = ap (λ x. R x k) q_is ∙ total.antisymm e.0 k ∙ ap ordering_reverse is in
            rw other refl

        by_order : (o : Ordering) → R k e.0 ≡ o → find (insert_entry R es k v) q ≡ cond (is_eq (R q k)) (Some v) (find es q) →
            find (match_ordering o ((k, v) ∷ e ∷ es) ((e.0, v) ∷ es) (e ∷ insert_entry R es k v)) q ≡ cond (is_eq (R q k)) (Some v) (find (e ∷ es) q)
        by_order Less is later = refl
        by_order Equal is later =
            elim (cases_Bool (is_eq (R q e.0))) [
              | inl y ↦ rw (same is, y) refl
              | inr n ↦ rw (same is, n) refl
            ]
        by_order Greater is later = ap (λ rest. cond (is_eq (R q e.0)) (Some e.1) rest) later ∙ below (is_eq (R q e.0)) refl is

    below_all : (k x : K) (es : List (K × X)) → R k x ≡ Less → AllByRecursion (λ q. R x q ≡ Less) (keys_of es) → AllByRecursion (λ q. R k q ≡ Less) (keys_of es)
    below_all k x [] is all = tt
    below_all k x (e ∷ es) is all = (total.trans k x e.0 is all.0, below_all k x es is all.1)

    above_put : (x k : K) (v : X) (es : List (K × X)) → R x k ≡ Less → AllByRecursion (λ q. R x q ≡ Less) (keys_of es) → AllByRecursion (λ q. R x q ≡ Less) (keys_of (insert_entry R es k v))
    above_put x k v [] is all = (is, tt)
    above_put x k v (e ∷ es) is all = by_order (R k e.0) (above_put x k v es is all.1)
      where
        by_order : (o : Ordering) → AllByRecursion (λ q. R x q ≡ Less) (keys_of (insert_entry R es k v)) → AllByRecursion (λ q. R x q ≡ Less) (keys_of (match_ordering o ((k, v) ∷ e ∷ es) ((e.0, v) ∷ es) (e ∷ insert_entry R es k v)))
        by_order Less later = (is, all)
        by_order Equal later = all
        by_order Greater later = (all.0, later)

    pub sorted_put : (k : K) (v : X) (es : List (K × X)) → IsStrictlySortedBy R (keys_of es) → IsStrictlySortedBy R (keys_of (insert_entry R es k v))
    unfolding IsStrictlySortedBy
    sorted_put k v [] sorted = (tt, tt)
    sorted_put k v (e ∷ es) sorted = by_order (R k e.0) refl (sorted_put k v es sorted.1)
      where
        by_order : (o : Ordering) → R k e.0 ≡ o → IsStrictlySortedBy R (keys_of (insert_entry R es k v)) → IsStrictlySortedBy R (keys_of (match_ordering o ((k, v) ∷ e ∷ es) ((e.0, v) ∷ es) (e ∷ insert_entry R es k v)))
        by_order Less is later = ((is, below_all k e.0 es is sorted.0), sorted)
        by_order Equal is later = sorted
        by_order Greater is later = (above_put e.0 k v es (total.antisymm e.0 k ∙ ap ordering_reverse is) sorted.0, later)

    -- ---- the same found

    at_head : (x : K × X) (xs : List (K × X)) → find (x ∷ xs) x.0 ≡ Some x.1
    at_head x xs = lookup_head (is_at (R x.0)) x xs (ap is_eq (tied_itself total x.0))

    past_head : (q : K) (x : K × X) (xs : List (K × X)) → IsStrictlySortedBy R (keys_of (x ∷ xs)) → eq_by_cmp R q x.0 ≡ true → find xs q ≡ None
    past_head q x xs s t = lookup-none (is_at (R q)) xs (none_past_head (eq_by_cmp_equiv total) q x xs (IsDistinct-from_sorted R _ s) t)

    heads : (x y : K × X) (xs ys : List (K × X)) → IsStrictlySortedBy R (keys_of (x ∷ xs)) → IsStrictlySortedBy R (keys_of (y ∷ ys)) →
        ((q : K) → find (x ∷ xs) q ≡ find (y ∷ ys) q) → x.0 ≡ y.0
    heads x y xs ys s t h = exact x.0 y.0 (by_order (R x.0 y.0) refl)
      where
        by_order : (o : Ordering) → R x.0 y.0 ≡ o → R x.0 y.0 ≡ Equal
        by_order Less p = not_none x.1 (sym (at_head x xs) ∙ h x.0 ∙ lookup-none _ (y ∷ ys) (none_below_head total x.0 y ys t p))
        by_order Equal p = p
        by_order Greater p =
            not_none y.1 (sym (at_head y ys) ∙ sym (h y.0) ∙ lookup-none _ (x ∷ xs) (none_below_head total y.0 x xs s (total.antisymm y.0 x.0 ∙ ap ordering_reverse p)))

    tails : (x y : K × X) (xs ys : List (K × X)) → IsStrictlySortedBy R (keys_of (x ∷ xs)) → IsStrictlySortedBy R (keys_of (y ∷ ys)) → x.0 ≡ y.0 →
        ((q : K) → find (x ∷ xs) q ≡ find (y ∷ ys) q) → (q : K) → find xs q ≡ find ys q
    tails x y xs ys s t same h q =
        let e : eq_by_cmp R q y.0 ≡ eq_by_cmp R q x.0 = ap (eq_by_cmp R q) (sym same) in
        elim (cases_Bool (eq_by_cmp R q x.0)) [
          | inl there ↦ past_head q x xs s there ∙ sym (past_head q y ys t (e ∙ there))
          | inr apart ↦ sym (lookup_tail (is_at (R q)) x xs apart) ∙ h q ∙ lookup_tail (is_at (R q)) y ys (e ∙ apart)
        ]

    pub same_entries : (es fs : List (K × X)) → IsStrictlySortedBy R (keys_of es) → IsStrictlySortedBy R (keys_of fs) → ((q : K) → find es q ≡ find fs q) → es ≡ fs
    same_entries [] [] s t h = refl
    same_entries [] (y ∷ ys) s t h = not_none y.1 (sym (h y.0 ∙ at_head y ys))
    same_entries (x ∷ xs) [] s t h = not_none x.1 (sym (at_head x xs) ∙ h x.0)
    same_entries (x ∷ xs) (y ∷ ys) s t h =
        let key = heads x y xs ys s t h in
        let value : x.1 ≡ y.1 = ap (λ u. unwrap_or u x.1) (sym (at_head x xs) ∙ h x.0 ∙ lookup_head (is_at (R x.0)) y ys (ap is_eq (ap (R x.0) (sym key) ∙ tied_itself total x.0))) in
        let rest = same_entries xs ys (sorted_tail R x.0 (keys_of xs) s) (sorted_tail R y.0 (keys_of ys) t) (tails x y xs ys s t key h) in
        ap (λ k. (k, x.1) ∷ xs) key ∙ ap (λ v. (y.0, v) ∷ xs) value ∙ ap (λ all. (y.0, y.1) ∷ all) rest

  -- ---- what is made of the values

  module _ {X Y : Type 0} (f : X → Y) where
    abbrev pub with_values : List (K × X) → List (K × Y)
    with_values es = map (λ (e : K × X). (e.0, f e.1)) es

    pub found_values : (es : List (K × X)) (q : K) → find (with_values es) q ≡ option_map f (find es q)
    found_values [] q = refl
    found_values (e ∷ es) q =
        elim (cases_Bool (is_eq (R q e.0))) [
          | inl there ↦ rw there refl
          | inr apart ↦ rw apart (found_values es q)
        ]

    pub put_values : (k : K) (v : X) (es : List (K × X)) → with_values (insert_entry R es k v) ≡ insert_entry R (with_values es) k (f v)
    put_values k v [] = refl
    put_values k v (e ∷ es) = by_order (R k e.0) (put_values k v es)
      where
        by_order : (o : Ordering) → with_values (insert_entry R es k v) ≡ insert_entry R (with_values es) k (f v) → with_values (match_ordering o ((k, v) ∷ e ∷ es) ((e.0, v) ∷ es) (e ∷ insert_entry R es k v))
            ≡ match_ordering o ((k, f v) ∷ (e.0, f e.1) ∷ with_values es) ((e.0, f v) ∷ with_values es) ((e.0, f e.1) ∷ insert_entry R (with_values es) k (f v))
        by_order Less later = refl
        by_order Equal later = refl
        by_order Greater later = ap (λ rest. (e.0, f e.1) ∷ rest) later
