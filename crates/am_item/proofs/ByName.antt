-- What is held of one kind, as items: in order, and found by its name.
use Rattle.std.proofs.Common.{◌≡◌, ℕ, Bool, true, false, cond, List, [], ◌∷◌, Option, Some, None, Ordering, refl, sym, ap, ◌∙◌, subst}
use Rattle.std.specs.BTreeMap.{is_at}
use Rattle.std.specs.Cmp.{Equal-is, IsTotalOrder, eq_by_cmp_equiv}
use Rattle.std.specs.List.{AllByRecursion, filter}
use Rattle.std.specs.List.Sorted.{IsStrictlySortedBy}
use Rattle.std.specs.Map.{keys_of, lookup}
use Rattle.std.specs.Option.{option_map}
use Rattle.std.specs.Ordering.{is_eq, is_gt}
use Rattle.std.specs.declared.cmp.Ordering.TheVariants.{Less}
use Rattle.std.proofs.lemmas.Bool.{cond-false, cond-true}
use Rattle.std.proofs.lemmas.Map.Lookups.{CmpEqualImpliesEq}
use Rattle.am_item.specs.Best.{IsRising, item_at}
use Rattle.am_item.specs.Held.{items_by}
use Rattle.am_item.specs.Key.{Key, exceeds, has_key, key_cmp, key_of, kind_of}
use Rattle.am_item.specs.Stamp.{stamp_cmp}
use Rattle.am_item.specs.Newest.{newest}
use Rattle.am_item.specs.declared.item.Item.{Item}
use Rattle.am_item.specs.declared.stamp.Stamped.{Stamped}
use Rattle.am_item.proofs.Greatest.{by_cases, later}
use Rattle.am_item.proofs.Joined.{with_item}
use Rattle.am_item.proofs.Rising.{AllAbove, here_at, later_at}

-- each item of the list is of this kind
abbrev pub OfKind : ℕ → List Item → Type 0
OfKind kind xs = AllByRecursion (λ x. kind_of (key_of x) ≡ kind) xs

-- items that all pass a test, or all fail it
pub passed_by : {K V : Type 0} (item : K → V → Item) (p : Item → Bool) → ((k : K) (v : V) → p (item k v) ≡ true) → (es : List (K × V)) → filter p (items_by item es) ≡ items_by item es
passed_by item p h [] = refl
passed_by item p h (e ∷ es) = cond-true _ (item e.0 e.1 ∷ filter p (items_by item es)) (filter p (items_by item es)) (h e.0 e.1) ∙ ap (λ xs. item e.0 e.1 ∷ xs) (passed_by item p h es)

pub failed_by : {K V : Type 0} (item : K → V → Item) (p : Item → Bool) → ((k : K) (v : V) → p (item k v) ≡ false) → (es : List (K × V)) → filter p (items_by item es) ≡ []
failed_by item p h [] = refl
failed_by item p h (e ∷ es) = cond-false _ (item e.0 e.1 ∷ filter p (items_by item es)) (filter p (items_by item es)) (h e.0 e.1) ∙ failed_by item p h es

module _ {K V : Type 0} (cmp : K → K → Ordering) (total : IsTotalOrder cmp) (exact : CmpEqualImpliesEq cmp) (name : K → Key) (item : K → Stamped V → Item)
    (named : (k : K) (v : Stamped V) → key_of (item k v) ≡ name k) (stamped : (k : K) (v : Stamped V) → (item k v).stamp ≡ v.stamp) (like : (a b : K) → key_cmp (name a) (name b) ≡ cmp a b) where
  -- items of greater names have greater keys
  pub above_by : (q : Key) (es : List (K × Stamped V)) → AllByRecursion (λ k. key_cmp q (name k) ≡ Less) (keys_of es) → AllAbove q (items_by item es)
  above_by q [] all = tt
  above_by q (e ∷ es) all = (ap (key_cmp q) (named e.0 e.1) ∙ all.0, above_by q es all.1)

  -- names that are above one have greater keys
  pub names_above : (k : K) (es : List (K × Stamped V)) → AllByRecursion (λ q. cmp k q ≡ Less) (keys_of es) → AllByRecursion (λ q. key_cmp (name k) (name q) ≡ Less) (keys_of es)
  names_above k [] all = tt
  names_above k (e ∷ es) all = (like k e.0 ∙ all.0, names_above k es all.1)

  -- items of rising names rise
  pub rising_by : (es : List (K × Stamped V)) → IsStrictlySortedBy cmp (keys_of es) → IsRising (items_by item es)
  unfolding IsStrictlySortedBy
  rising_by [] s = tt
  rising_by (e ∷ es) s = (subst (λ q. AllAbove q (items_by item es)) (sym (named e.0 e.1)) (above_by (name e.0) es (names_above e.0 es s.0)), rising_by es s.1)

  -- an item has a name's key where its own name compares equal
  pub has_name : (k q : K) (v : Stamped V) → has_key (name k) (item q v) ≡ is_eq (cmp k q)
  has_name k q v = ap (λ key. is_eq (key_cmp (name k) key)) (named q v) ∙ ap is_eq (like k q)

  -- a look-up by a name
  pub at_by : (k : K) (es : List (K × Stamped V)) → item_at (name k) (items_by item es) ≡ option_map (item k) (lookup (is_at (cmp k)) es)
  at_by k [] = refl
  at_by k (e ∷ es) =
      by_cases (is_eq (cmp k e.0))
      (λ h.
      here_at (name k) (item e.0 e.1) (items_by item es) (has_name k e.0 e.1 ∙ h)
      ∙ ap (λ q. Some (item q e.1)) (sym (exact k e.0 ((Equal-is (cmp k e.0)).0 h)))
      ∙ sym (ap (option_map (item k)) (cond-true _ (Some e.1) (lookup (is_at (cmp k)) es) h)))
      (λ h.
      later_at (name k) (item e.0 e.1) (items_by item es) (has_name k e.0 e.1 ∙ h)
      ∙ at_by k es
      ∙ sym (ap (option_map (item k)) (cond-false _ (Some e.1) (lookup (is_at (cmp k)) es) h)))

  -- the newest of two, as the later of two items
  newest_later : (k : K) (o : Option (Stamped V)) (v : Stamped V) → option_map (item k) (newest o v) ≡ later (option_map (item k) o) (Some (item k v))
  newest_later k None v = refl
  newest_later k (Some u) v =
      let greater = is_gt (stamp_cmp v.stamp u.stamp) in
      let test : exceeds (item k v) (item k u) ≡ greater = ap (λ s. is_gt (stamp_cmp s (item k u).stamp)) (stamped k v) ∙ ap (λ s. is_gt (stamp_cmp v.stamp s)) (stamped k u) in
      by_cases greater
      (λ e. ap (option_map (item k)) (cond-true _ (Some v) (Some u) e) ∙ sym (cond-true _ (Some (item k v)) (Some (item k u)) (test ∙ e)))
      (λ e. ap (option_map (item k)) (cond-false _ (Some v) (Some u) e) ∙ sym (cond-false _ (Some (item k v)) (Some (item k u)) (test ∙ e)))

  -- look-ups where a value has come under a name
  pub came_by : (k q : K) (v : Stamped V) (was now : Option (Stamped V)) → now ≡ cond (is_at (cmp k) q) (newest was v) was
      → option_map (item q) now ≡ with_item (name q) (option_map (item q) was) (item k v)
  came_by k q v was now h =
      let test : has_key (name q) (item k v) ≡ is_at (cmp k) q = has_name q k v ∙ (eq_by_cmp_equiv total).symm q k in
      ap (option_map (item q)) h
      ∙ by_cases (is_at (cmp k) q)
      (λ e.
      let same : k ≡ q = exact k q ((Equal-is (cmp k q)).0 e) in
      ap (option_map (item q)) (cond-true _ (newest was v) was e)
      ∙ newest_later q was v
      ∙ ap (λ p. later (option_map (item q) was) (Some (item p v))) (sym same)
      ∙ sym (cond-true _ (later (option_map (item q) was) (Some (item k v))) (option_map (item q) was) (test ∙ e)))
      (λ e.
      ap (option_map (item q)) (cond-false _ (newest was v) was e)
      ∙ sym (cond-false _ (later (option_map (item q) was) (Some (item k v))) (option_map (item q) was) (test ∙ e)))

  -- a look-up by a key of another kind
  pub at_other : (q : Key) → ((k : K) → is_eq (key_cmp q (name k)) ≡ false) → (es : List (K × Stamped V)) → item_at q (items_by item es) ≡ None
  at_other q other [] = refl
  at_other q other (e ∷ es) = later_at q (item e.0 e.1) (items_by item es) (ap (λ key. is_eq (key_cmp q key)) (named e.0 e.1) ∙ other e.0) ∙ at_other q other es

  -- a kind's items are of it
  pub kind_by : (kind : ℕ) → ((k : K) → kind_of (name k) ≡ kind) → (es : List (K × Stamped V)) → OfKind kind (items_by item es)
  kind_by kind h [] = tt
  kind_by kind h (e ∷ es) = (ap kind_of (named e.0 e.1) ∙ h e.0, kind_by kind h es)
