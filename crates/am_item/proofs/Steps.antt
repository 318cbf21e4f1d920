-- The steps of a merge, and what a put does.
use Rattle.std.proofs.Common.{◌≡◌, Bool, true, false, cond, List, [], ◌∷◌, ◌++◌, Option, Some, None, Ordering, refl, sym, ap, ◌∙◌, subst, append_assoc}
use Rattle.std.specs.BTreeMap.{is_at}
use Rattle.std.specs.Cmp.{IsTotalOrder}
use Rattle.std.specs.List.Sorted.{IsStrictlySortedBy}
use Rattle.std.specs.Map.{keys_of, lookup}
use Rattle.std.specs.Ordering.{is_eq, is_gt}
use Rattle.std.specs.declared.cmp.Ordering.TheVariants.{Less, Equal}
use Rattle.std.proofs.lemmas.Bool.{cond-false, cond-true}
use Rattle.std.proofs.lemmas.Cmp.{alike_right, tied_back, tied_itself}
use Rattle.am_item.specs.Newest.{newer}
use Rattle.am_item.specs.Stamp.{stamp_cmp}
use Rattle.am_item.specs.declared.stamp.Stamped.{Stamped}
use Rattle.am_item.proofs.Entries.{AllAbove, AllBelow, above_first, above_more, below_equal, by_cases, lookup_gap, lookup_with, round, sorted_back, sorted_mid, sorted_swap}

-- the newer of a value and itself is the value
pub newer_same : {V : Type 0} (v : Stamped V) → newer (Some v) (Some v) ≡ Some v
newer_same v = by_cases (is_gt (stamp_cmp v.stamp v.stamp)) (λ e. cond-true _ (Some v) (Some v) e) (λ e. cond-false _ (Some v) (Some v) e)

-- of two entries with equal keys the one that stays
abbrev pub stays : {K V : Type 0} → K × Stamped V → K × Stamped V → K × Stamped V
stays x y = cond (is_gt (stamp_cmp y.1.stamp x.1.stamp)) y x

stays_value : {K V : Type 0} (x y : K × Stamped V) → newer (Some x.1) (Some y.1) ≡ Some (stays x y).1
stays_value x y =
    by_cases (is_gt (stamp_cmp y.1.stamp x.1.stamp))
    (λ e. cond-true _ (Some y.1) (Some x.1) e ∙ ap (λ z. Some z.1) (sym (cond-true _ y x e)))
    (λ e. cond-false _ (Some y.1) (Some x.1) e ∙ ap (λ z. Some z.1) (sym (cond-false _ y x e)))

-- one more behind the first of two lists is one more before the second
moved : {X : Type 0} (out : List X) (x : X) (xs : List X) → out ++ x ∷ xs ≡ (out ++ x ∷ []) ++ xs
moved out x xs = sym (append_assoc out (x ∷ []) xs)

module _ {K V : Type 0} {cmp : K → K → Ordering} (total : IsTotalOrder cmp) where
  -- the own first entry is lower
  pub own_sorted : (out : List (K × Stamped V)) (x : K × Stamped V) (xs : List (K × Stamped V)) → IsStrictlySortedBy cmp (keys_of (out ++ x ∷ xs)) → IsStrictlySortedBy cmp (keys_of ((out ++ x ∷ []) ++ xs))
  own_sorted out x xs s = subst (λ es. IsStrictlySortedBy cmp (keys_of es)) (moved out x xs) s

  pub other_sorted : (out : List (K × Stamped V)) (x y : K × Stamped V) (xs ys : List (K × Stamped V)) → cmp x.0 y.0 ≡ Less → IsStrictlySortedBy cmp (keys_of (out ++ x ∷ xs)) → IsStrictlySortedBy cmp (keys_of (out ++ y ∷ ys)) → IsStrictlySortedBy cmp (keys_of ((out ++ x ∷ []) ++ y ∷ ys))
  other_sorted out x y xs ys less own others =
      let below = (round total x out xs own).0 in
      own_sorted out x (y ∷ ys) (sorted_mid total x.0 x.1 out (y ∷ ys) others below (above total x y ys less (sorted_back total out (y ∷ ys) others)))
    where
      above : (total : IsTotalOrder cmp) (x y : K × Stamped V) (ys : List (K × Stamped V)) → cmp x.0 y.0 ≡ Less → IsStrictlySortedBy cmp (keys_of (y ∷ ys)) → AllAbove total x.0 (y ∷ ys)
      above total x y ys less s = (less, above_more total x.0 y.0 less ys (above_first total y ys s))

  -- look-ups where x, which is lower than all of ys, goes out
  pub lower_out : (q : K) (out : List (K × Stamped V)) (x : K × Stamped V) (ys : List (K × Stamped V)) → AllBelow total x.0 out → AllAbove total x.0 ys
      → lookup (is_at (cmp q)) ((out ++ x ∷ []) ++ ys) ≡ cond (is_at (cmp q) x.0) (Some x.1) (lookup (is_at (cmp q)) (out ++ ys))
  lower_out q out x ys below above = ap (lookup (is_at (cmp q))) (sym (moved out x ys)) ∙ lookup_with total q x out ys below

  pub less_newer : (q : K) (out : List (K × Stamped V)) (x y : K × Stamped V) (xs ys : List (K × Stamped V)) → cmp x.0 y.0 ≡ Less → IsStrictlySortedBy cmp (keys_of (out ++ x ∷ xs)) → IsStrictlySortedBy cmp (keys_of (out ++ y ∷ ys))
      → newer (lookup (is_at (cmp q)) ((out ++ x ∷ []) ++ xs)) (lookup (is_at (cmp q)) ((out ++ x ∷ []) ++ y ∷ ys)) ≡ newer (lookup (is_at (cmp q)) (out ++ x ∷ xs)) (lookup (is_at (cmp q)) (out ++ y ∷ ys))
  less_newer q out x y xs ys less own others =
      let below = (round total x out xs own).0 in
      let over : AllAbove total x.0 (y ∷ ys) = (less, above_more total x.0 y.0 less ys (above_first total y ys (sorted_back total out (y ∷ ys) others))) in
      let one : lookup (is_at (cmp q)) ((out ++ x ∷ []) ++ xs) ≡ lookup (is_at (cmp q)) (out ++ x ∷ xs) = ap (lookup (is_at (cmp q))) (sym (moved out x xs)) in
      let two = lower_out q out x (y ∷ ys) below over in
      let own_at = lookup_with total q x out xs below in
      by_cases (is_at (cmp q) x.0)
      (λ e.
      ap (λ o. newer o (lookup (is_at (cmp q)) ((out ++ x ∷ []) ++ y ∷ ys))) (one ∙ own_at ∙ cond-true _ (Some x.1) (lookup (is_at (cmp q)) (out ++ xs)) e)
      ∙ ap (newer (Some x.1)) (two ∙ cond-true _ (Some x.1) (lookup (is_at (cmp q)) (out ++ y ∷ ys)) e)
      ∙ newer_same x.1
      ∙ sym (ap (λ o. newer o (lookup (is_at (cmp q)) (out ++ y ∷ ys))) (own_at ∙ cond-true _ (Some x.1) (lookup (is_at (cmp q)) (out ++ xs)) e)
      ∙ ap (newer (Some x.1)) (lookup_gap total q x.0 out (y ∷ ys) e below over)))
      (λ e.
      ap (λ o. newer o (lookup (is_at (cmp q)) ((out ++ x ∷ []) ++ y ∷ ys))) one
      ∙ ap (newer (lookup (is_at (cmp q)) (out ++ x ∷ xs))) (two ∙ cond-false _ (Some x.1) (lookup (is_at (cmp q)) (out ++ y ∷ ys)) e))

  pub greater_newer : (q : K) (out : List (K × Stamped V)) (x y : K × Stamped V) (xs ys : List (K × Stamped V)) → cmp y.0 x.0 ≡ Less → IsStrictlySortedBy cmp (keys_of (out ++ x ∷ xs)) → IsStrictlySortedBy cmp (keys_of (out ++ y ∷ ys))
      → newer (lookup (is_at (cmp q)) ((out ++ y ∷ []) ++ x ∷ xs)) (lookup (is_at (cmp q)) ((out ++ y ∷ []) ++ ys)) ≡ newer (lookup (is_at (cmp q)) (out ++ x ∷ xs)) (lookup (is_at (cmp q)) (out ++ y ∷ ys))
  greater_newer q out x y xs ys less own others =
      let below = (round total y out ys others).0 in
      let over : AllAbove total y.0 (x ∷ xs) = (less, above_more total y.0 x.0 less xs (above_first total x xs (sorted_back total out (x ∷ xs) own))) in
      let one : lookup (is_at (cmp q)) ((out ++ y ∷ []) ++ ys) ≡ lookup (is_at (cmp q)) (out ++ y ∷ ys) = ap (lookup (is_at (cmp q))) (sym (moved out y ys)) in
      let two = lower_out q out y (x ∷ xs) below over in
      let others_at = lookup_with total q y out ys below in
      by_cases (is_at (cmp q) y.0)
      (λ e.
      ap (λ o. newer o (lookup (is_at (cmp q)) ((out ++ y ∷ []) ++ ys))) (two ∙ cond-true _ (Some y.1) (lookup (is_at (cmp q)) (out ++ x ∷ xs)) e)
      ∙ ap (newer (Some y.1)) (one ∙ others_at ∙ cond-true _ (Some y.1) (lookup (is_at (cmp q)) (out ++ ys)) e)
      ∙ newer_same y.1
      ∙ sym (ap (λ o. newer o (lookup (is_at (cmp q)) (out ++ y ∷ ys))) (lookup_gap total q y.0 out (x ∷ xs) e below over)
      ∙ ap (newer None) (others_at ∙ cond-true _ (Some y.1) (lookup (is_at (cmp q)) (out ++ ys)) e)))
      (λ e.
      ap (λ o. newer o (lookup (is_at (cmp q)) ((out ++ y ∷ []) ++ ys))) (two ∙ cond-false _ (Some y.1) (lookup (is_at (cmp q)) (out ++ x ∷ xs)) e)
      ∙ ap (newer (lookup (is_at (cmp q)) (out ++ x ∷ xs))) one)

  pub stays_key : (x y : K × Stamped V) → cmp x.0 y.0 ≡ Equal → (cmp x.0 (stays x y).0 ≡ Equal) × (cmp y.0 (stays x y).0 ≡ Equal)
  stays_key x y h =
      by_cases (is_gt (stamp_cmp y.1.stamp x.1.stamp))
      (λ e. subst (λ z. (cmp x.0 z.0 ≡ Equal) × (cmp y.0 z.0 ≡ Equal)) (sym (cond-true _ y x e)) (h, tied_itself total y.0))
      (λ e. subst (λ z. (cmp x.0 z.0 ≡ Equal) × (cmp y.0 z.0 ≡ Equal)) (sym (cond-false _ y x e)) (tied_itself total x.0, tied_back total x.0 y.0 h))

  pub equal_sorted : (out : List (K × Stamped V)) (x z : K × Stamped V) (xs : List (K × Stamped V)) → cmp x.0 z.0 ≡ Equal → IsStrictlySortedBy cmp (keys_of (out ++ x ∷ xs)) → IsStrictlySortedBy cmp (keys_of ((out ++ z ∷ []) ++ xs))
  equal_sorted out x z xs h s = own_sorted out z xs (sorted_swap total z.0 z.1 x out xs h s)

  -- what a look-up gives where z has come in the place of x
  swapped_at : (q : K) (out : List (K × Stamped V)) (x z : K × Stamped V) (xs : List (K × Stamped V)) → cmp x.0 z.0 ≡ Equal → IsStrictlySortedBy cmp (keys_of (out ++ x ∷ xs))
      → (lookup (is_at (cmp q)) ((out ++ z ∷ []) ++ xs) ≡ cond (is_at (cmp q) z.0) (Some z.1) (lookup (is_at (cmp q)) (out ++ xs))) × (lookup (is_at (cmp q)) (out ++ x ∷ xs) ≡ cond (is_at (cmp q) z.0) (Some x.1) (lookup (is_at (cmp q)) (out ++ xs)))
  swapped_at q out x z xs h s =
      let below = (round total x out xs s).0 in (
        ap (lookup (is_at (cmp q))) (sym (moved out z xs)) ∙ lookup_with total q z out xs (below_equal total x.0 z.0 h out below),
        lookup_with total q x out xs below ∙ ap (λ o. cond (is_eq o) (Some x.1) (lookup (is_at (cmp q)) (out ++ xs))) (alike_right total x.0 z.0 q h),
      )

  pub equal_newer : (q : K) (out : List (K × Stamped V)) (x y z : K × Stamped V) (xs ys : List (K × Stamped V)) → cmp x.0 y.0 ≡ Equal → z ≡ stays x y → IsStrictlySortedBy cmp (keys_of (out ++ x ∷ xs)) → IsStrictlySortedBy cmp (keys_of (out ++ y ∷ ys))
      → newer (lookup (is_at (cmp q)) ((out ++ z ∷ []) ++ xs)) (lookup (is_at (cmp q)) ((out ++ z ∷ []) ++ ys)) ≡ newer (lookup (is_at (cmp q)) (out ++ x ∷ xs)) (lookup (is_at (cmp q)) (out ++ y ∷ ys))
  equal_newer q out x y z xs ys same is own others =
      let k = stays_key x y same in
      let hx : cmp x.0 z.0 ≡ Equal = subst (λ w. cmp x.0 w.0 ≡ Equal) (sym is) k.0 in
      let hy : cmp y.0 z.0 ≡ Equal = subst (λ w. cmp y.0 w.0 ≡ Equal) (sym is) k.1 in
      let a = swapped_at q out x z xs hx own in
      let b = swapped_at q out y z ys hy others in
      let restx = lookup (is_at (cmp q)) (out ++ xs) in
      let resty = lookup (is_at (cmp q)) (out ++ ys) in
      (λ i. newer (a.0 i) (b.0 i))
      ∙ picked (is_at (cmp q) z.0) restx resty x y z is
      ∙ sym (λ i. newer (a.1 i) (b.1 i))
    where
      picked : (t : Bool) (r s : Option (Stamped V)) (x y z : K × Stamped V) → z ≡ stays x y → newer (cond t (Some z.1) r) (cond t (Some z.1) s) ≡ newer (cond t (Some x.1) r) (cond t (Some y.1) s)
      picked true r s x y z is = newer_same z.1 ∙ ap (λ w. Some w.1) is ∙ sym (stays_value x y)
      picked false r s x y z is = refl

  -- one list is at its end
  newer_end : (o : Option (Stamped V)) → newer o None ≡ o
  newer_end None = refl
  newer_end (Some v) = refl

  newer_start : (o : Option (Stamped V)) → newer None o ≡ o
  newer_start None = refl
  newer_start (Some v) = refl

  pub others_end : (t : K → Bool) (out es : List (K × Stamped V)) → newer (lookup t (out ++ es)) (lookup t (out ++ [])) ≡ lookup t (out ++ es)
  others_end t [] es = newer_end (lookup t es)
  others_end t (e ∷ out) es = passed (t e.0) e.1 (lookup t (out ++ es)) (lookup t (out ++ [])) (others_end t out es)
    where
      passed : (b : Bool) (v : Stamped V) (r s : Option (Stamped V)) → newer r s ≡ r → newer (cond b (Some v) r) (cond b (Some v) s) ≡ cond b (Some v) r
      passed true v r s h = newer_same v
      passed false v r s h = h

  pub own_end : (t : K → Bool) (out es : List (K × Stamped V)) → newer (lookup t (out ++ [])) (lookup t (out ++ es)) ≡ lookup t (out ++ es)
  own_end t [] es = newer_start (lookup t es)
  own_end t (e ∷ out) es = passed (t e.0) e.1 (lookup t (out ++ [])) (lookup t (out ++ es)) (own_end t out es)
    where
      passed : (b : Bool) (v : Stamped V) (r s : Option (Stamped V)) → newer r s ≡ s → newer (cond b (Some v) r) (cond b (Some v) s) ≡ cond b (Some v) s
      passed true v r s h = newer_same v
      passed false v r s h = h
