-- Lists of entries: what is taken out, what is left, what stands where.
use Rattle.std.proofs.Common.{◌≡◌, Bool, true, false, not, cond, inl, inr, List, [], ◌∷◌, Ordering, Option, Some, None, refl, sym, ap, ◌∙◌}
use Rattle.std.specs.BTreeMap.{insert_entry}
use Rattle.std.specs.Cmp.{IsTotalOrder}
use Rattle.std.specs.List.{AllByRecursion, filter}
use Rattle.std.specs.List.Sorted.{IsStrictlySortedBy}
use Rattle.std.specs.Map.{keys_of, lookup, remove_entry}
use Rattle.std.specs.Option.{is_some}
use Rattle.std.specs.Ordering.{is_eq, match_ordering}
use Rattle.std.specs.declared.cmp.Ordering.TheVariants.{Less, Equal, Greater}
use Rattle.std.proofs.lemmas.Bool.{cases_Bool, true≢false}

-- what isn't something is nothing
pub none_if : {X : Type 0} (o : Option X) → is_some o ≡ false → o ≡ None
none_if None h = refl
none_if (Some x) h = absurd (true≢false h)

module _ {K X : Type 0} (test : K → Bool) where
  some_none : {A : Type 0} (x : X) → Some x ≡ None → A
  some_none x h = absurd (cc)

  -- where nothing is found, all is left
  pub all_left : (es : List (K × X)) → lookup test es ≡ None → filter (λ e. not (test e.0)) es ≡ es
  all_left [] h = refl
  all_left (e ∷ es) h = elim (cases_Bool (test e.0)) [
    | inl y ↦ some_none e.1 (rw y at h)
    | inr n ↦ rw n (ap (λ rest. e ∷ rest) (all_left es (rw n at h)))
  ]

  -- where nothing is found after a first entry was taken out, all that passes was
  pub removed_all : (es fs : List (K × X)) → fs ≡ remove_entry test es → lookup test fs ≡ None → fs ≡ filter (λ e. not (test e.0)) es
  removed_all es fs is h = is ∙ go es (ap (lookup test) (sym is) ∙ h)
    where
      go : (es : List (K × X)) → lookup test (remove_entry test es) ≡ None → remove_entry test es ≡ filter (λ e. not (test e.0)) es
      go [] h = refl
      go (e ∷ es) h = elim (cases_Bool (test e.0)) [
        | inl y ↦ rw y (sym (all_left es (rw y at h)))
        | inr n ↦ rw n (ap (λ rest. e ∷ rest) (go es (rw (n, n) at h)))
      ]

-- an entry that came and went leaves what was there
pub come_and_gone : {K X : Type 0} (cmp : K → K → Ordering) (k : K) (v : X) → is_eq (cmp k k) ≡ true → (es : List (K × X)) → lookup (λ q. is_eq (cmp k q)) es ≡ None
    → remove_entry (λ q. is_eq (cmp k q)) (insert_entry cmp es k v) ≡ es
come_and_gone cmp k v own [] h = rw own refl
come_and_gone cmp k v own (e ∷ es) h = by_order (cmp k e.0) refl (come_and_gone cmp k v own es)
  where
    by_order : (o : Ordering) → cmp k e.0 ≡ o
        → (lookup (λ q. is_eq (cmp k q)) es ≡ None → remove_entry (λ q. is_eq (cmp k q)) (insert_entry cmp es k v) ≡ es)
        → remove_entry (λ q. is_eq (cmp k q)) (match_ordering o ((k, v) ∷ e ∷ es) ((e.0, v) ∷ es) (e ∷ insert_entry cmp es k v)) ≡ e ∷ es
    by_order Less is more = rw own refl
    by_order Equal is more = absurd (cc (ap (λ o. cond (is_eq o) (Some e.1) (lookup (λ q. is_eq (cmp k q)) es)) (sym is) ∙ h))
    by_order Greater is more = rw is (ap (λ rest. e ∷ rest) (more (rw is at h)))

-- an entry that was put twice
pub put_twice : {K X : Type 0} (cmp : K → K → Ordering) (k : K) (v : X) → cmp k k ≡ Equal → (es : List (K × X)) → insert_entry cmp (insert_entry cmp es k v) k v ≡ insert_entry cmp es k v
put_twice cmp k v own [] = rw own refl
put_twice cmp k v own (e ∷ es) = by_order (cmp k e.0) refl (put_twice cmp k v own es)
  where
    by_order : (o : Ordering) → cmp k e.0 ≡ o → insert_entry cmp (insert_entry cmp es k v) k v ≡ insert_entry cmp es k v
        → insert_entry cmp (match_ordering o ((k, v) ∷ e ∷ es) ((e.0, v) ∷ es) (e ∷ insert_entry cmp es k v)) k v ≡ match_ordering o ((k, v) ∷ e ∷ es) ((e.0, v) ∷ es) (e ∷ insert_entry cmp es k v)
    by_order Less is more = rw own refl
    by_order Equal is more = rw is refl
    by_order Greater is more = rw is (ap (λ rest. e ∷ rest) more)

-- an entry that was put is found
pub put_found : {K X : Type 0} (cmp : K → K → Ordering) (k : K) (v : X) → cmp k k ≡ Equal → (es : List (K × X)) → lookup (λ q. is_eq (cmp k q)) (insert_entry cmp es k v) ≡ Some v
put_found cmp k v own [] = rw own refl
put_found cmp k v own (e ∷ es) = by_order (cmp k e.0) refl (put_found cmp k v own es)
  where
    by_order : (o : Ordering) → cmp k e.0 ≡ o → lookup (λ q. is_eq (cmp k q)) (insert_entry cmp es k v) ≡ Some v
        → lookup (λ q. is_eq (cmp k q)) (match_ordering o ((k, v) ∷ e ∷ es) ((e.0, v) ∷ es) (e ∷ insert_entry cmp es k v)) ≡ Some v
    by_order Less is more = rw own refl
    by_order Equal is more = rw is refl
    by_order Greater is more = rw is more

module _ {K : Type 0} (cmp : K → K → Ordering) (total : IsTotalOrder cmp) where
  -- nothing is found that is below all
  pub none_found : {X : Type 0} (k : K) (es : List (K × X)) → AllByRecursion (λ q. cmp k q ≡ Less) (keys_of es) → lookup (λ q. is_eq (cmp k q)) es ≡ None
  none_found k [] all = refl
  none_found k (e ∷ es) all = rw all.0 (none_found k es all.1)

  -- what is below the first is below all
  pub below_all : {X : Type 0} (k x : K) (es : List (K × X)) → cmp k x ≡ Less → AllByRecursion (λ q. cmp x q ≡ Less) (keys_of es) → AllByRecursion (λ q. cmp k q ≡ Less) (keys_of es)
  below_all k x [] is all = tt
  below_all k x (e ∷ es) is all = (total.trans k x e.0 is all.0, below_all k x es is all.1)

  -- to put what is there changes nothing
  pub put_there : {X : Type 0} (k : K) (v : X) (es : List (K × X)) → IsStrictlySortedBy cmp (keys_of es) → lookup (λ q. is_eq (cmp k q)) es ≡ Some v → insert_entry cmp es k v ≡ es
  unfolding IsStrictlySortedBy
  put_there k v [] up there = absurd (cc)
  put_there k v (e ∷ es) up there = by_order (cmp k e.0) refl (put_there k v es up.1)
    where
      some_same : Some e.1 ≡ Some v → e.1 ≡ v
      some_same h = cc

      none_some : None ≡ Some v → ⊥
      none_some h = cc

      found : (o : Ordering) → cmp k e.0 ≡ o → cond (is_eq o) (Some e.1) (lookup (λ q. is_eq (cmp k q)) es) ≡ Some v
      found o is = ap (λ p. cond (is_eq p) (Some e.1) (lookup (λ q. is_eq (cmp k q)) es)) (sym is) ∙ there

      by_order : (o : Ordering) → cmp k e.0 ≡ o → (lookup (λ q. is_eq (cmp k q)) es ≡ Some v → insert_entry cmp es k v ≡ es)
          → match_ordering o ((k, v) ∷ e ∷ es) ((e.0, v) ∷ es) (e ∷ insert_entry cmp es k v) ≡ e ∷ es
      by_order Less is more = absurd (none_some (sym (none_found k es (below_all k e.0 es is up.0)) ∙ found Less is))
      by_order Equal is more = ap (λ w. (e.0, w) ∷ es) (sym (some_same (found Equal is)))
      by_order Greater is more = ap (λ rest. e ∷ rest) (more (found Greater is))
