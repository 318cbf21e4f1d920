-- What a binary search by keys finds, and what a put at its answer does.
use Rattle.std.proofs.Common.{◌≡◌, ℕ, zero, suc, ◌+◌, ◌<◌, Bool, true, false, cond, List, [], ◌∷◌, ◌++◌, length, get_or, set, take, drop, Option, Some, None, Ordering, Result, Ok, Err, refl, sym, ap, ◌∙◌, subst, arith}
use Rattle.std.specs.BTreeMap.{is_at}
use Rattle.std.specs.Cmp.{IsTotalOrder, eq_by_cmp_equiv}
use Rattle.std.specs.List.{insert, remove}
use Rattle.std.specs.List.Sorted.{IsBinarySearchResult, IsSearchInRange, IsSortedBy, IsStrictlySortedBy}
use Rattle.std.specs.Map.{keys_of, lookup, remove_entry}
use Rattle.std.specs.Ordering.{is_eq, is_gt, is_lt}
use Rattle.std.specs.Result.{MatchResult}
use Rattle.std.specs.declared.cmp.Ordering.TheVariants.{Less, Equal}
use Rattle.std.proofs.lemmas.Bool.{cond-false, cond-true}
use Rattle.std.proofs.lemmas.Cmp.{alike_right, tied_back}
use Rattle.std.proofs.lemmas.List.{get_or-map, take-append-drop}
use Rattle.std.proofs.lemmas.List.Sorted.{searchable_from_sorted}
use Rattle.std.proofs.lemmas.Map.Entries.{length-keys_of}
use Rattle.std.proofs.lemmas.Map.Keys.{Less-from_sorted}
use Rattle.std.proofs.lemmas.Map.{NonePasses}
use Rattle.am_item.specs.Newest.{newest}
use Rattle.am_item.specs.Stamp.{stamp_cmp}
use Rattle.am_item.specs.Retirement.{held_standing, put_over}
use Rattle.am_item.specs.declared.held.Put.TheVariants.{New, Older, Replaced}
use Rattle.am_item.specs.declared.held.Standing.{Standing}
use Rattle.am_item.specs.declared.stamp.Stamp.{Stamp}
use Rattle.std.specs.Option.{option_map}
use Rattle.am_item.specs.declared.stamp.Stamped.{Stamped}
use Rattle.am_item.specs.Places.{IsGap, IsPlace}
use Rattle.am_item.proofs.Entries.{AllAbove, AllBelow, back_from, below_equal, by_cases, flipped, flipped_less, front_from, lookup_gap, lookup_with, none_above, none_append, none_below, round, sorted_mid, sorted_swap, turned}

-- a list, an entry of it, and what lies round it
pub parted : {X : Type 0} (es : List X) (i : ℕ) (d : X) → i < length es → es ≡ take i es ++ get_or es i d ∷ drop (suc i) es
parted [] i d h = absurd (omega arith)
parted (x ∷ xs) zero d h = refl
parted (x ∷ xs) (suc i) d h = ap (λ ys. x ∷ ys) (parted xs i d (omega arith))

-- what a write makes of it
pub written : {X : Type 0} (es : List X) (i : ℕ) (y : X) → i < length es → set es i y ≡ take i es ++ y ∷ drop (suc i) es
written [] i y h = absurd (omega arith)
written (x ∷ xs) zero y h = refl
written (x ∷ xs) (suc i) y h = ap (λ ys. x ∷ ys) (written xs i y (omega arith))

-- the first entry whose key passes goes
pub remove_mid : {K X : Type 0} (t : K → Bool) (e : K × X) (xs ys : List (K × X)) → NonePasses t xs → t e.0 ≡ true → remove_entry t (xs ++ e ∷ ys) ≡ xs ++ ys
remove_mid t e [] ys none at = cond-true _ ys (e ∷ remove_entry t ys) at
remove_mid t e (x ∷ xs) ys none at = cond-false _ (xs ++ e ∷ ys) (x ∷ remove_entry t (xs ++ e ∷ ys)) none.0 ∙ ap (λ l. x ∷ l) (remove_mid t e xs ys none.1 at)

pub remove_none : {K X : Type 0} (t : K → Bool) (es : List (K × X)) → NonePasses t es → remove_entry t es ≡ es
remove_none t [] none = refl
remove_none t (x ∷ xs) none = cond-false _ xs (x ∷ remove_entry t xs) none.0 ∙ ap (λ l. x ∷ l) (remove_none t xs none.1)

module _ {K X : Type 0} {cmp : K → K → Ordering} (total : IsTotalOrder cmp) where
  -- rising keys don't fall
  sorted_keys : (es : List (K × X)) → IsStrictlySortedBy cmp (keys_of es) → IsSortedBy (λ a b. is_lt (cmp a.0 b.0)) es
  sorted_keys es s = λ k d lo hi.
      let less : cmp (get_or (keys_of es) k d.0) (get_or (keys_of es) (k + 1) d.0) ≡ Less = Less-from_sorted cmp (keys_of es) k (k + 1) d.0 s (omega arith) (omega (arith, length-keys_of es)) in
      let here : cmp (get_or es k d).0 (get_or es (k + 1) d).0 ≡ Less =
      sym (λ i. cmp (get_or-map (λ (e : K × X). e.0) es k d d.0 (omega arith) i) (get_or-map (λ (e : K × X). e.0) es (k + 1) d d.0 (omega arith) i)) ∙ less in
      ap is_lt (flipped_less total (get_or es k d).0 (get_or es (k + 1) d).0 here)

  -- what a binary search answers
  pub place_from : (q : K) (es : List (K × X)) (r : Result ℕ ℕ) → IsStrictlySortedBy cmp (keys_of es) → IsSearchInRange r (length es) → IsBinarySearchResult (λ e. cmp e.0 q) es r
      → MatchResult r (IsPlace cmp q es) (IsGap cmp q es)
  place_from q es (Ok i) s within found = record { within = within; here = found }
  place_from q es (Err i) s within found =
      let p = found (searchable_from_sorted total (λ (e : K × X). e.0) es q (sorted_keys es s)) in
      record { within = within; below = p.0; above = p.1 }

  -- the parts at a gap
  pub below_gap : (q : K) (es : List (K × X)) (i : ℕ) → IsGap cmp q es i → AllBelow total q (take i es)
  below_gap q es i gap = front_from (λ e. cmp e.0 q ≡ Less) es i (λ k d l. gap.below k d (omega arith) l)

  pub above_gap : (q : K) (es : List (K × X)) (i : ℕ) → IsGap cmp q es i → AllAbove total q (drop i es)
  above_gap q es i gap = back_from (λ e. cmp q e.0 ≡ Less) es i (λ k d lo hi. flipped total (get_or es k d).0 q (gap.above k d lo hi))

  -- nothing stands there
  pub none_at_gap : (q : K) (es : List (K × X)) (i : ℕ) → IsGap cmp q es i → (p : K) → is_at (cmp p) q ≡ true → lookup (is_at (cmp p)) es ≡ None
  none_at_gap q es i gap p at =
      ap (lookup (is_at (cmp p))) (sym (take-append-drop i es))
      ∙ lookup_gap total p q (take i es) (drop i es) at (below_gap q es i gap) (above_gap q es i gap)

  pub insert_sorted : (k : K) (v : X) (es : List (K × X)) (i : ℕ) → IsGap cmp k es i → IsStrictlySortedBy cmp (keys_of es) → IsStrictlySortedBy cmp (keys_of (insert es i (k, v)))
  insert_sorted k v es i gap s =
      sorted_mid total k v (take i es) (drop i es) (subst (λ l. IsStrictlySortedBy cmp (keys_of l)) (sym (take-append-drop i es)) s) (below_gap k es i gap) (above_gap k es i gap)

  pub set_sorted : (k : K) (v : X) (es : List (K × X)) (i : ℕ) → IsPlace cmp k es i → IsStrictlySortedBy cmp (keys_of es) → IsStrictlySortedBy cmp (keys_of (set es i (k, v)))
  set_sorted k v es i place s =
      let e = get_or es i (k, v) in
      subst (λ l. IsStrictlySortedBy cmp (keys_of l)) (sym (written es i (k, v) place.within))
      (sorted_swap total k v e (take i es) (drop (suc i) es) (place.here (k, v)) (subst (λ l. IsStrictlySortedBy cmp (keys_of l)) (parted es i (k, v) place.within) s))

  -- what stands at a place, for each key that is equal
  pub at_place : (k : K) (es : List (K × X)) (i : ℕ) (e : K × X) → IsPlace cmp k es i → IsStrictlySortedBy cmp (keys_of es) → e ≡ get_or es i e → (q : K) → is_at (cmp q) k ≡ true → lookup (is_at (cmp q)) es ≡ Some e.1
  at_place k es i e place s is q at =
      let whole : es ≡ take i es ++ e ∷ drop (suc i) es = parted es i e place.within ∙ ap (λ x. take i es ++ x ∷ drop (suc i) es) (sym is) in
      let same : cmp e.0 k ≡ Equal = ap (λ x. cmp x.0 k) is ∙ place.here e in
      let below = (round total e (take i es) (drop (suc i) es) (subst (λ l. IsStrictlySortedBy cmp (keys_of l)) whole s)).0 in
      ap (lookup (is_at (cmp q))) whole
      ∙ lookup_with total q e (take i es) (drop (suc i) es) below
      ∙ cond-true _ (Some e.1) (lookup (is_at (cmp q)) (take i es ++ drop (suc i) es)) (ap is_eq (alike_right total e.0 k q same) ∙ at)

  -- an entry goes from its place
  pub removed_place : (k : K) (es : List (K × X)) (i : ℕ) → IsPlace cmp k es i → IsStrictlySortedBy cmp (keys_of es) → (remove es i ≡ remove_entry (is_at (cmp k)) es) × IsStrictlySortedBy cmp (keys_of (remove es i))
  removed_place k [] i place s = absurd (omega (arith, place.within))
  removed_place k (x ∷ xs) i place s =
      let es = x ∷ xs in
      let e = get_or es i x in
      let front = take i es in
      let back = drop (suc i) es in
      let whole : es ≡ front ++ e ∷ back = parted es i x place.within in
      let r = round total e front back (subst (λ l. IsStrictlySortedBy cmp (keys_of l)) whole s) in
      let at : is_at (cmp k) e.0 ≡ true = ap is_eq (tied_back total e.0 k (place.here x)) in
      (sym (ap (remove_entry (is_at (cmp k))) whole ∙ remove_mid (is_at (cmp k)) e front back (none_below total k e.0 front at r.0) at), r.2)

  pub removed_gap : (k : K) (es : List (K × X)) (i : ℕ) → IsGap cmp k es i → es ≡ remove_entry (is_at (cmp k)) es
  removed_gap k es i gap =
      let at = (eq_by_cmp_equiv total).refl k in
      sym (remove_none (is_at (cmp k)) es (subst (NonePasses (is_at (cmp k))) (take-append-drop i es)
      (none_append (is_at (cmp k)) (take i es) (drop i es) (none_below total k k (take i es) at (below_gap k es i gap)) (none_above total k k (drop i es) at (above_gap k es i gap)))))

module _ {K V : Type 0} {cmp : K → K → Ordering} (total : IsTotalOrder cmp) where
  -- what a look-up gives once a value was put
  abbrev pub put_at : K → Stamped V → List (K × Stamped V) → K → Option (Stamped V)
  put_at k v es q = cond (is_at (cmp k) q) (newest (lookup (is_at (cmp q)) es) v) (lookup (is_at (cmp q)) es)

  pub put_gap : (k : K) (v : Stamped V) (es : List (K × Stamped V)) (i : ℕ) → IsGap cmp k es i → (q : K) → lookup (is_at (cmp q)) (insert es i (k, v)) ≡ cond (is_at (cmp k) q) (newest (lookup (is_at (cmp q)) es) v) (lookup (is_at (cmp q)) es)
  put_gap k v es i gap q =
      lookup_with total q (k, v) (take i es) (drop i es) (below_gap total k es i gap)
      ∙ ap (λ l. cond (is_at (cmp q) k) (Some v) (lookup (is_at (cmp q)) l)) (take-append-drop i es)
      ∙ by_cases (is_at (cmp q) k)
      (λ e.
      cond-true _ (Some v) (lookup (is_at (cmp q)) es) e
      ∙ sym (cond-true _ (newest (lookup (is_at (cmp q)) es) v) (lookup (is_at (cmp q)) es) (turned total k q ∙ e)
      ∙ ap (λ o. newest o v) (none_at_gap total k es i gap q e)))
      (λ e.
      cond-false _ (Some v) (lookup (is_at (cmp q)) es) e
      ∙ sym (cond-false _ (newest (lookup (is_at (cmp q)) es) v) (lookup (is_at (cmp q)) es) (turned total k q ∙ e)))

  pub put_place : (k : K) (v : Stamped V) (es : List (K × Stamped V)) (i : ℕ) (e : K × Stamped V) → IsPlace cmp k es i → IsStrictlySortedBy cmp (keys_of es) → e ≡ get_or es i e → is_gt (stamp_cmp v.stamp e.1.stamp) ≡ true
      → (q : K) → lookup (is_at (cmp q)) (set es i (k, v)) ≡ cond (is_at (cmp k) q) (newest (lookup (is_at (cmp q)) es) v) (lookup (is_at (cmp q)) es)
  put_place k v es i e place s is exceeds q =
      let front = take i es in
      let back = drop (suc i) es in
      let whole : es ≡ front ++ e ∷ back = parted es i e place.within ∙ ap (λ x. front ++ x ∷ back) (sym is) in
      let same : cmp e.0 k ≡ Equal = ap (λ x. cmp x.0 k) is ∙ place.here e in
      let below = (round total e front back (subst (λ l. IsStrictlySortedBy cmp (keys_of l)) whole s)).0 in
      let own : lookup (is_at (cmp q)) es ≡ cond (is_at (cmp q) k) (Some e.1) (lookup (is_at (cmp q)) (front ++ back)) =
      ap (lookup (is_at (cmp q))) whole ∙ lookup_with total q e front back below ∙ ap (λ o. cond (is_eq o) (Some e.1) (lookup (is_at (cmp q)) (front ++ back))) (alike_right total e.0 k q same) in
      ap (lookup (is_at (cmp q))) (written es i (k, v) place.within)
      ∙ lookup_with total q (k, v) front back (below_equal total e.0 k same front below)
      ∙ chosen (is_at (cmp q) k) (is_at (cmp k) q) (lookup (is_at (cmp q)) es) (lookup (is_at (cmp q)) (front ++ back)) (turned total k q) own
    where
      chosen : (s t : Bool) (o r : Option (Stamped V)) → t ≡ s → o ≡ cond s (Some e.1) r → cond s (Some v) r ≡ cond t (newest o v) o
      chosen true t o r h own = sym (cond-true _ (newest o v) o h ∙ ap (λ p. newest p v) own ∙ cond-true _ (Some v) (Some e.1) exceeds)
      chosen false t o r h own = sym (cond-false _ (newest o v) o h ∙ own)

  pub put_older : (k : K) (v : Stamped V) (es : List (K × Stamped V)) (i : ℕ) (e : K × Stamped V) → IsPlace cmp k es i → IsStrictlySortedBy cmp (keys_of es) → e ≡ get_or es i e → is_gt (stamp_cmp v.stamp e.1.stamp) ≡ false
      → (q : K) → lookup (is_at (cmp q)) es ≡ cond (is_at (cmp k) q) (newest (lookup (is_at (cmp q)) es) v) (lookup (is_at (cmp q)) es)
  put_older k v es i e place s is exceeds q =
      by_cases (is_at (cmp k) q)
      (λ h.
      let there = at_place total k es i e place s is q (turned total q k ∙ h) in
      there ∙ sym (cond-true _ (newest (lookup (is_at (cmp q)) es) v) (lookup (is_at (cmp q)) es) h ∙ ap (λ o. newest o v) there ∙ cond-false _ (Some v) (Some e.1) exceeds))
      (λ h. sym (cond-false _ (newest (lookup (is_at (cmp q)) es) v) (lookup (is_at (cmp q)) es) h))

-- what a put did, by what stood there
pub put_replaced : {V : Type 0} (retires : ℕ → V → ℕ) (o : Option (Stamped V)) (e : Stamped V) (s : Standing) (stamp : Stamp) → o ≡ Some e → s ≡ held_standing retires e → is_gt (stamp_cmp stamp e.stamp) ≡ true
    → Replaced s ≡ put_over (option_map (held_standing retires) o) stamp
put_replaced retires o e s stamp stood is exceeds =
    ap Replaced is
    ∙ sym (ap (λ p. put_over (option_map (held_standing retires) p) stamp) stood ∙ cond-true _ (Replaced (held_standing retires e)) Older exceeds)

pub put_stays : {V : Type 0} (retires : ℕ → V → ℕ) (o : Option (Stamped V)) (e : Stamped V) (stamp : Stamp) → o ≡ Some e → is_gt (stamp_cmp stamp e.stamp) ≡ false → Older ≡ put_over (option_map (held_standing retires) o) stamp
put_stays retires o e stamp stood exceeds =
    sym (ap (λ p. put_over (option_map (held_standing retires) p) stamp) stood ∙ cond-false _ (Replaced (held_standing retires e)) Older exceeds)

pub put_new : {V : Type 0} (retires : ℕ → V → ℕ) (o : Option (Stamped V)) (stamp : Stamp) → o ≡ None → New ≡ put_over (option_map (held_standing retires) o) stamp
put_new retires o stamp none = sym (ap (λ p. put_over (option_map (held_standing retires) p) stamp) none)
