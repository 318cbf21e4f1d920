-- Entries under label sets in order, as one is put in the place of any that stood there.
use Rattle.std.proofs.Common.{◌≡◌, Bool, true, false, not, cond, inl, inr, List, [], ◌∷◌, Some, None, Ordering, refl}
use Rattle.std.proofs.Common.{sym, ap, ◌∙◌}
use Rattle.std.specs.BTreeMap.{insert_entry}
use Rattle.std.specs.BTreeSet.{insert_key}
use Rattle.std.specs.List.{filter, list_any}
use Rattle.std.specs.List.Sorted.{IsStrictlySortedBy}
use Rattle.std.specs.Map.{keys_of, lookup}
use Rattle.std.specs.Option.{is_some}
use Rattle.std.specs.Ordering.{is_eq, match_ordering, ordering_reverse}
use Rattle.std.specs.declared.cmp.Ordering.TheVariants.{Less, Equal, Greater}
use Rattle.std.proofs.lemmas.Bool.{cases_Bool, false≢true}
use Rattle.std.proofs.lemmas.List.Kept.{IsStrictlySortedBy-filter}
use Rattle.std.proofs.lemmas.Map.Entries.{lookup-filter-keys}
use Rattle.am_labels.specs.declared.Label.{Label}
use Rattle.am_labels.specs.Labels.{labels_cmp, labels_total}
use Rattle.am_labels.proofs.InOrder.{labels_exact}
use Rattle.am_labels.proofs.Ordered.{sorted_inserted}
use Rattle.am_members.specs.Names.{is_set, without}
use Rattle.am_members.proofs.Orders.{set_tells, set-refl, set-sym}
use Rattle.am_members.proofs.Tables.{below_all, none_found}

-- one at a label set
abbrev pub put : {X : Type 0} → List Label → X → List (List Label × X) → List (List Label × X)
put l v es = insert_entry labels_cmp (without l es) l v

-- each label set is below those after it
abbrev pub IsOrdered : {X : Type 0} → List (List Label × X) → Type 0
IsOrdered es = IsStrictlySortedBy labels_cmp (keys_of es)

module _ {X : Type 0} where
  some_none : {A : Type 0} (x : X) → Some x ≡ None → A
  some_none x h = absurd (cc)

  -- ---- a look-up after a put

  absent_after : (l : List Label) (es : List (List Label × X)) → lookup (is_set l) (without l es) ≡ None
  absent_after l [] = refl
  absent_after l (e ∷ es) = elim (cases_Bool (is_set l e.0)) [
    | inl y ↦ rw y (absent_after l es)
    | inr n ↦ rw (n, n) (absent_after l es)
  ]

  -- after an entry came whose key wasn't there
  found_inserted : (q l : List Label) (v : X) (es : List (List Label × X)) → lookup (is_set l) es ≡ None → lookup (is_set q) (insert_entry labels_cmp es l v) ≡ cond (is_set q l) (Some v) (lookup (is_set q) es)
  found_inserted q l v [] absent = refl
  found_inserted q l v (e ∷ es) absent = by_order (labels_cmp l e.0) refl (found_inserted q l v es)
    where
      absent_at : (o : Ordering) → labels_cmp l e.0 ≡ o → cond (is_eq o) (Some e.1) (lookup (is_set l) es) ≡ None
      absent_at o is = ap (λ p. cond (is_eq p) (Some e.1) (lookup (is_set l) es)) (sym is) ∙ absent

      by_order : (o : Ordering) → labels_cmp l e.0 ≡ o → (lookup (is_set l) es ≡ None → lookup (is_set q) (insert_entry labels_cmp es l v) ≡ cond (is_set q l) (Some v) (lookup (is_set q) es))
          → lookup (is_set q) (match_ordering o ((l, v) ∷ e ∷ es) ((e.0, v) ∷ es) (e ∷ insert_entry labels_cmp es l v)) ≡ cond (is_set q l) (Some v) (lookup (is_set q) (e ∷ es))
      by_order Less is more = refl
      by_order Equal is more = some_none e.1 (absent_at Equal is)
      by_order Greater is more = elim (set_tells q e.0) [
        | inl y ↦
            let apart : is_set q l ≡ false = ap (λ k. is_set k l) y.1 ∙ set-sym e.0 l ∙ ap is_eq is in
            rw (y.0, apart) refl
        | inr n ↦ rw n.0 (more (absent_at Greater is))
      ]

  pub found_put : (q l : List Label) (v : X) (es : List (List Label × X)) → lookup (is_set q) (put l v es) ≡ cond (is_set q l) (Some v) (lookup (is_set q) es)
  found_put q l v es =
      found_inserted q l v (without l es) (absent_after l es)
      ∙ ap (cond (is_set q l) (Some v)) (lookup-filter-keys (is_set q) (λ k. not (is_set l k)) (not (is_set l q)) same es)
      ∙ once (is_set q l) (is_set l q) (set-sym l q)
    where
      same : (k : List Label) → is_set q k ≡ true → not (is_set l k) ≡ not (is_set l q)
      same k h = elim (set_tells q k) [
        | inl y ↦ ap (λ p. not (is_set l p)) (sym y.1)
        | inr n ↦ absurd (false≢true (sym n.0 ∙ h))
      ]

      once : (b d : Bool) → d ≡ b → cond b (Some v) (cond (not d) (lookup (is_set q) es) None) ≡ cond b (Some v) (lookup (is_set q) es)
      once true d e = refl
      once false d e = rw e refl

  -- ---- the order after a put

  keys-insert_entry : (l : List Label) (v : X) (es : List (List Label × X)) → keys_of (insert_entry labels_cmp es l v) ≡ insert_key labels_cmp (keys_of es) l
  keys-insert_entry l v [] = refl
  keys-insert_entry l v (e ∷ es) = by_order (labels_cmp l e.0) (keys-insert_entry l v es)
    where
      by_order : (o : Ordering) → keys_of (insert_entry labels_cmp es l v) ≡ insert_key labels_cmp (keys_of es) l
          → keys_of (match_ordering o ((l, v) ∷ e ∷ es) ((e.0, v) ∷ es) (e ∷ insert_entry labels_cmp es l v)) ≡ match_ordering o (l ∷ e.0 ∷ keys_of es) (e.0 ∷ keys_of es) (e.0 ∷ insert_key labels_cmp (keys_of es) l)
      by_order Less more = refl
      by_order Equal more = refl
      by_order Greater more = ap (λ ks. e.0 ∷ ks) more

  keys-without : (l : List Label) (es : List (List Label × X)) → keys_of (without l es) ≡ filter (λ k. not (is_set l k)) (keys_of es)
  keys-without l [] = refl
  keys-without l (e ∷ es) = elim (cases_Bool (is_set l e.0)) [
    | inl y ↦ rw y (keys-without l es)
    | inr n ↦ rw n (ap (λ ks. e.0 ∷ ks) (keys-without l es))
  ]

  ordered_without : (l : List Label) (es : List (List Label × X)) → IsOrdered es → IsOrdered (without l es)
  ordered_without l es up = rw (keys-without l es) (IsStrictlySortedBy-filter labels_cmp (λ k. not (is_set l k)) (keys_of es) up)

  pub ordered_put : (l : List Label) (v : X) (es : List (List Label × X)) → IsOrdered es → IsOrdered (put l v es)
  ordered_put l v es up =
      rw (keys-insert_entry l v (without l es)) (sorted_inserted labels_cmp labels_total labels_exact (keys_of (without l es)) l (ordered_without l es up))

  -- ---- entries in order are told by what is found

  -- what is below a head is found in none of its list
  none_below : (k : List Label) (e : List Label × X) (es : List (List Label × X)) → IsOrdered (e ∷ es) → labels_cmp k e.0 ≡ Less → lookup (is_set k) (e ∷ es) ≡ None
  unfolding IsStrictlySortedBy
  none_below k e es up is = rw is (none_found labels_cmp labels_total k es (below_all labels_cmp labels_total k e.0 es is up.0))

  found_first : (e : List Label × X) (es : List (List Label × X)) → lookup (is_set e.0) (e ∷ es) ≡ Some e.1
  found_first e es = rw (set-refl e.0) refl

  pub same_found : (xs ys : List (List Label × X)) → IsOrdered xs → IsOrdered ys → ((q : List Label) → lookup (is_set q) xs ≡ lookup (is_set q) ys) → xs ≡ ys
  unfolding IsStrictlySortedBy
  same_found [] [] s t h = refl
  same_found [] (y ∷ ys) s t h = some_none y.1 (sym (found_first y ys) ∙ sym (h y.0))
  same_found (x ∷ xs) [] s t h = some_none x.1 (sym (found_first x xs) ∙ h x.0)
  same_found (x ∷ xs) (y ∷ ys) s t h = by_order (labels_cmp x.0 y.0) refl (same_found xs ys s.1 t.1)
    where
      some_same : {a b : X} → Some a ≡ Some b → a ≡ b
      some_same e = cc

      by_order : (o : Ordering) → labels_cmp x.0 y.0 ≡ o → (((q : List Label) → lookup (is_set q) xs ≡ lookup (is_set q) ys) → xs ≡ ys) → x ∷ xs ≡ y ∷ ys
      by_order Less is more = some_none x.1 (sym (found_first x xs) ∙ h x.0 ∙ none_below x.0 y ys t is)
      by_order Greater is more = some_none y.1 (sym (found_first y ys) ∙ sym (h y.0) ∙ none_below y.0 x xs s (labels_total.antisymm y.0 x.0 ∙ ap ordering_reverse is))
      by_order Equal is more =
          let key : x.0 ≡ y.0 = labels_exact x.0 y.0 is in
          let value : x.1 ≡ y.1 = some_same (sym (found_first x xs) ∙ h x.0 ∙ ap (λ k. lookup (is_set k) (y ∷ ys)) key ∙ found_first y ys) in
          let heads : x ≡ y = ap (λ (k : List Label). let e : List Label × X = (k, x.1) in e) key ∙ ap (λ (v : X). let e : List Label × X = (y.0, v) in e) value in
          ap (λ (e : List Label × X). e ∷ xs) heads ∙ ap (λ (zs : List (List Label × X)). y ∷ zs) (more (λ q. elim (set_tells q x.0) [
            | inl here ↦
                ap (λ k. lookup (is_set k) xs) here.1 ∙ none_found labels_cmp labels_total x.0 xs s.0
                ∙ sym (ap (λ k. lookup (is_set k) ys) (here.1 ∙ key) ∙ none_found labels_cmp labels_total y.0 ys t.0)
            | inr n ↦
                let apart : is_set q y.0 ≡ false = ap (is_set q) (sym key) ∙ n.0 in
                rw (n.0, apart) at (h q)
          ]))

  -- to put what stands there changes nothing
  pub put_same : (l : List Label) (v : X) (es : List (List Label × X)) → IsOrdered es → lookup (is_set l) es ≡ Some v → put l v es ≡ es
  put_same l v es up there = same_found (put l v es) es (ordered_put l v es up) up (λ q. found_put q l v es ∙ elim (set_tells q l) [
    | inl y ↦ rw y.0 (sym (ap (λ k. lookup (is_set k) es) y.1 ∙ there))
    | inr n ↦ rw n.0 refl
  ])

  -- a label set is among the keys where something is found
  pub any_key : (q : List Label) (es : List (List Label × X)) → list_any (is_set q) (keys_of es) ≡ is_some (lookup (is_set q) es)
  any_key q [] = refl
  any_key q (e ∷ es) = elim (cases_Bool (is_set q e.0)) [
    | inl y ↦ rw y refl
    | inr n ↦ rw n (any_key q es)
  ]
