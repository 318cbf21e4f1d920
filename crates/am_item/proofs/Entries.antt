-- Entries in order of their keys: one more between others, one in the place of another, and what a look-up finds then.
use Rattle.std.proofs.Common.{◌≡◌, ℕ, zero, suc, ◌<◌, ◌≤◌, Bool, true, false, cond, List, [], ◌∷◌, ◌++◌, length, get_or, take, drop, Some, None, Ordering, refl, sym, ap, ◌∙◌, arith}
use Rattle.std.specs.BTreeMap.{is_at}
use Rattle.std.specs.Cmp.{Equal-is, IsTotalOrder, eq_by_cmp_equiv}
use Rattle.std.specs.List.{AllByRecursion}
use Rattle.std.specs.List.Sorted.{IsStrictlySortedBy}
use Rattle.std.specs.Map.{keys_of, lookup}
use Rattle.std.specs.Ordering.{is_eq, ordering_reverse}
use Rattle.std.specs.declared.cmp.Ordering.TheVariants.{Less, Equal, Greater}
use Rattle.std.proofs.lemmas.Bool.{cond-false, cond-true, false≢true}
use Rattle.std.proofs.lemmas.Cmp.{alike_right}
use Rattle.std.proofs.lemmas.Map.{NonePasses, lookup-none}

pub by_cases : {G : Type 0} (b : Bool) → (b ≡ true → G) → (b ≡ false → G) → G
by_cases true if_true if_false = if_true refl
by_cases false if_true if_false = if_false refl

-- what holds of the keys of two lists holds of those of both with one more between them
all_mid : {K X : Type 0} (P : K → Type 0) (k : K) (v : X) (xs ys : List (K × X)) → AllByRecursion P (keys_of (xs ++ ys)) → P k → AllByRecursion P (keys_of (xs ++ (k, v) ∷ ys))
all_mid P k v [] ys all p = (p, all)
all_mid P k v (x ∷ xs) ys all p = (all.0, all_mid P k v xs ys all.1 p)

-- and the way back
all_rest : {K X : Type 0} (P : K → Type 0) (e : K × X) (xs ys : List (K × X)) → AllByRecursion P (keys_of (xs ++ e ∷ ys)) → AllByRecursion P (keys_of (xs ++ ys)) × P e.0
all_rest P e [] ys all = (all.1, all.0)
all_rest P e (x ∷ xs) ys all = let rest = all_rest P e xs ys all.1 in ((all.0, rest.0), rest.1)

-- what holds of entries by index
pub all_from : {X : Type 0} (P : X → Type 0) (es : List X) → ((k : ℕ) (d : X) → k < length es → P (get_or es k d)) → AllByRecursion P es
all_from P [] h = tt
all_from P (x ∷ xs) h = (h zero x (omega arith), all_from P xs (λ k d l. h (suc k) d (omega arith)))

pub front_from : {X : Type 0} (P : X → Type 0) (es : List X) (i : ℕ) → ((k : ℕ) (d : X) → k < i → P (get_or es k d)) → AllByRecursion P (take i es)
front_from P [] zero h = tt
front_from P [] (suc i) h = tt
front_from P (x ∷ xs) zero h = tt
front_from P (x ∷ xs) (suc i) h = (h zero x (omega arith), front_from P xs i (λ k d l. h (suc k) d (omega arith)))

pub back_from : {X : Type 0} (P : X → Type 0) (es : List X) (i : ℕ) → ((k : ℕ) (d : X) → i ≤ k → k < length es → P (get_or es k d)) → AllByRecursion P (drop i es)
back_from P [] zero h = tt
back_from P [] (suc i) h = tt
back_from P (x ∷ xs) zero h = all_from P (x ∷ xs) (λ k d l. h k d (omega arith) l)
back_from P (x ∷ xs) (suc i) h = back_from P xs i (λ k d lo hi. h (suc k) d (omega arith) (omega arith))

-- a look-up passes over an entry whose key fails the test
pub lookup_mid : {K X : Type 0} (t : K → Bool) (e : K × X) (xs ys : List (K × X)) → (t e.0 ≡ true → NonePasses t xs) → lookup t (xs ++ e ∷ ys) ≡ cond (t e.0) (Some e.1) (lookup t (xs ++ ys))
lookup_mid t e [] ys none = refl
lookup_mid t e (x ∷ xs) ys none =
    by_cases (t x.0)
    (λ h.
    cond-true _ (Some x.1) (lookup t (xs ++ e ∷ ys)) h
    ∙ sym (cond-false _ (Some e.1) (lookup t (x ∷ xs ++ ys)) (by_cases (t e.0) (λ at. absurd (false≢true (sym (none at).0 ∙ h))) (λ at. at))
    ∙ cond-true _ (Some x.1) (lookup t (xs ++ ys)) h))
    (λ h.
    cond-false _ (Some x.1) (lookup t (xs ++ e ∷ ys)) h
    ∙ lookup_mid t e xs ys (λ at. (none at).1)
    ∙ ap (λ o. cond (t e.0) (Some e.1) o) (sym (cond-false _ (Some x.1) (lookup t (xs ++ ys)) h)))

-- two lists of which none passes
pub none_append : {K X : Type 0} (t : K → Bool) (xs ys : List (K × X)) → NonePasses t xs → NonePasses t ys → NonePasses t (xs ++ ys)
none_append t [] ys a b = b
none_append t (x ∷ xs) ys a b = (a.0, none_append t xs ys a.1 b)

module _ {K : Type 0} {cmp : K → K → Ordering} (total : IsTotalOrder cmp) where
  pub flipped : (a b : K) → cmp a b ≡ Greater → cmp b a ≡ Less
  flipped a b h = total.antisymm b a ∙ ap ordering_reverse h

  pub flipped_less : (a b : K) → cmp a b ≡ Less → cmp b a ≡ Greater
  flipped_less a b h = total.antisymm b a ∙ ap ordering_reverse h

  pub turned : (a b : K) → is_at (cmp a) b ≡ is_at (cmp b) a
  turned a b = (eq_by_cmp_equiv total).symm a b

module _ {K X : Type 0} {cmp : K → K → Ordering} (total : IsTotalOrder cmp) where
  abbrev pub AllBelow : K → List (K × X) → Type 0
  AllBelow k es = AllByRecursion (λ e. cmp e.0 k ≡ Less) es

  abbrev pub AllAbove : K → List (K × X) → Type 0
  AllAbove k es = AllByRecursion (λ e. cmp k e.0 ≡ Less) es

  pub keys_above : (k : K) (es : List (K × X)) → AllAbove k es → AllByRecursion (λ q. cmp k q ≡ Less) (keys_of es)
  keys_above k [] all = tt
  keys_above k (e ∷ es) all = (all.0, keys_above k es all.1)

  pub entries_above : (k : K) (es : List (K × X)) → AllByRecursion (λ q. cmp k q ≡ Less) (keys_of es) → AllAbove k es
  entries_above k [] all = tt
  entries_above k (e ∷ es) all = (all.0, entries_above k es all.1)

  -- keys below one, or above it, are as much below or above an equal one
  pub below_equal : (k q : K) → cmp k q ≡ Equal → (es : List (K × X)) → AllBelow k es → AllBelow q es
  below_equal k q h [] all = tt
  below_equal k q h (e ∷ es) all = (sym (alike_right total k q e.0 h) ∙ all.0, below_equal k q h es all.1)

  pub above_equal : (k q : K) → cmp k q ≡ Equal → (es : List (K × X)) → AllAbove k es → AllAbove q es
  above_equal k q h [] all = tt
  above_equal k q h (e ∷ es) all = (sym (total.congr k q e.0 h) ∙ all.0, above_equal k q h es all.1)

  pub above_more : (k q : K) → cmp k q ≡ Less → (es : List (K × X)) → AllAbove q es → AllAbove k es
  above_more k q h [] all = tt
  above_more k q h (e ∷ es) all = (total.trans k q e.0 h all.0, above_more k q h es all.1)

  -- none of them is equal to it
  pub none_below : (q k : K) (es : List (K × X)) → is_at (cmp q) k ≡ true → AllBelow k es → NonePasses (is_at (cmp q)) es
  none_below q k [] at all = tt
  none_below q k (e ∷ es) at all = (ap is_eq (total.congr q k e.0 ((Equal-is (cmp q k)).0 at) ∙ flipped_less total e.0 k all.0), none_below q k es at all.1)

  pub none_above : (q k : K) (es : List (K × X)) → is_at (cmp q) k ≡ true → AllAbove k es → NonePasses (is_at (cmp q)) es
  none_above q k [] at all = tt
  none_above q k (e ∷ es) at all = (ap is_eq (total.congr q k e.0 ((Equal-is (cmp q k)).0 at) ∙ all.0), none_above q k es at all.1)

  -- one more between lower and greater ones
  pub sorted_mid : (k : K) (v : X) (xs ys : List (K × X)) → IsStrictlySortedBy cmp (keys_of (xs ++ ys)) → AllBelow k xs → AllAbove k ys → IsStrictlySortedBy cmp (keys_of (xs ++ (k, v) ∷ ys))
  unfolding IsStrictlySortedBy
  sorted_mid k v [] ys s below above = (keys_above k ys above, s)
  sorted_mid k v (x ∷ xs) ys s below above = (all_mid (λ q. cmp x.0 q ≡ Less) k v xs ys s.0 below.0, sorted_mid k v xs ys s.1 below.1 above)

  -- what lies round an entry
  pub round : (e : K × X) (xs ys : List (K × X)) → IsStrictlySortedBy cmp (keys_of (xs ++ e ∷ ys)) → AllBelow e.0 xs × AllAbove e.0 ys × IsStrictlySortedBy cmp (keys_of (xs ++ ys))
  unfolding IsStrictlySortedBy
  round e [] ys s = (tt, entries_above e.0 ys s.0, s.1)
  round e (x ∷ xs) ys s =
      let r = round e xs ys s.1 in
      let a = all_rest (λ q. cmp x.0 q ≡ Less) e xs ys s.0 in
      ((a.1, r.0), r.1, (a.0, r.2))

  -- the last of two lists in order
  pub sorted_back : (xs ys : List (K × X)) → IsStrictlySortedBy cmp (keys_of (xs ++ ys)) → IsStrictlySortedBy cmp (keys_of ys)
  unfolding IsStrictlySortedBy
  sorted_back [] ys s = s
  sorted_back (x ∷ xs) ys s = sorted_back xs ys s.1

  pub above_first : (e : K × X) (es : List (K × X)) → IsStrictlySortedBy cmp (keys_of (e ∷ es)) → AllAbove e.0 es
  unfolding IsStrictlySortedBy
  above_first e es s = entries_above e.0 es s.0

  -- a look-up with one more
  pub lookup_with : (q : K) (e : K × X) (xs ys : List (K × X)) → AllBelow e.0 xs → lookup (is_at (cmp q)) (xs ++ e ∷ ys) ≡ cond (is_at (cmp q) e.0) (Some e.1) (lookup (is_at (cmp q)) (xs ++ ys))
  lookup_with q e xs ys below = lookup_mid (is_at (cmp q)) e xs ys (λ at. none_below q e.0 xs at below)

  -- nothing stands at a gap
  pub lookup_gap : (q k : K) (xs ys : List (K × X)) → is_at (cmp q) k ≡ true → AllBelow k xs → AllAbove k ys → lookup (is_at (cmp q)) (xs ++ ys) ≡ None
  lookup_gap q k xs ys at below above = lookup-none (is_at (cmp q)) (xs ++ ys) (none_append (is_at (cmp q)) xs ys (none_below q k xs at below) (none_above q k ys at above))

  -- an entry with an equal key in the place of one
  pub sorted_swap : (k : K) (v : X) (e : K × X) (xs ys : List (K × X)) → cmp e.0 k ≡ Equal → IsStrictlySortedBy cmp (keys_of (xs ++ e ∷ ys)) → IsStrictlySortedBy cmp (keys_of (xs ++ (k, v) ∷ ys))
  sorted_swap k v e xs ys h s =
      let r = round e xs ys s in
      sorted_mid k v xs ys r.2 (below_equal e.0 k h xs r.0) (above_equal e.0 k h ys r.1)
