-- What stands under each group.
use Rattle.std.proofs.Common.{◌≡◌, Bool, true, false, cond, inl, inr, ℕ, List, [], ◌∷◌, ◌++◌, Option, Some, None, Vec, Global, filter, map, refl, sym, ap, ap₂, ◌∙◌, append-nil, subst}
use Rattle.std.specs.BTreeMap.{insert_entry, is_at}
use Rattle.std.specs.Cmp.{Equal-is}
use Rattle.std.specs.List.{list_any}
use Rattle.std.specs.List.Sorted.{IsStrictlySortedBy}
use Rattle.std.specs.Map.{keys_of, lookup}
use Rattle.std.specs.Option.{option_map, unwrap_or}
use Rattle.std.specs.Ordering.{is_eq}
use Rattle.std.proofs.lemmas.Bool.{cases_Bool}
use Rattle.std.proofs.lemmas.Cmp.{eq_by_cmp_equiv, tied_itself}
use Rattle.std.proofs.lemmas.List.{map-append}
use Rattle.std.proofs.lemmas.List.Elements.{filter-append}
use Rattle.std.proofs.lemmas.Simd.{map-map}
use Rattle.am_group_list.specs.declared.group.ListedGroup.{ListedGroup}
use Rattle.am_group_list.specs.Groups.{grouped, in_order, listed_cmp, members_in}
use Rattle.am_group_list.specs.Places.{AreGrouped, places_by, unless_empty}
use Rattle.am_group_list.proofs.Entries.{found_put, found_values, put_values, same_entries, sorted_put}
use Rattle.am_group_list.proofs.Orders.{groups_exact, groups_total}

module _ {X : Type 0} where
  -- the group is one of the pairs
  abbrev is_among : ListedGroup → List (ListedGroup × X) → Bool
  is_among q pairs = list_any (is_at (listed_cmp q)) (map (λ pair. pair.0) pairs)

  pub members-append : (q : ListedGroup) (xs ys : List (ListedGroup × X)) → members_in q (xs ++ ys) ≡ members_in q xs ++ members_in q ys
  members-append q xs ys =
      ap (map (λ (pair : ListedGroup × X). pair.1)) (filter-append (λ pair. is_eq (listed_cmp q pair.0)) xs ys)
      ∙ map-append (λ (pair : ListedGroup × X). pair.1) (filter (λ pair. is_eq (listed_cmp q pair.0)) xs) (filter (λ pair. is_eq (listed_cmp q pair.0)) ys)

  -- those that are listed have something paired with them
  pub listed_members : (q : ListedGroup) (pairs : List (ListedGroup × X)) → cond (is_among q pairs) (Some (members_in q pairs)) None ≡ unless_empty (members_in q pairs)
  listed_members q [] = refl
  listed_members q (p ∷ pairs) =
      elim (cases_Bool (is_eq (listed_cmp q p.0))) [
        | inl there ↦ rw there refl
        | inr apart ↦ rw apart (listed_members q pairs)
      ]

  -- ---- in order

  in_order_sorted : (pairs : List (ListedGroup × X)) (gs : List ListedGroup) → IsStrictlySortedBy listed_cmp (keys_of (in_order pairs gs))
  unfolding IsStrictlySortedBy
  in_order_sorted pairs [] = tt
  in_order_sorted pairs (g ∷ gs) = sorted_put listed_cmp groups_total groups_exact g (members_in g pairs) (in_order pairs gs) (in_order_sorted pairs gs)

  in_order_found : (pairs : List (ListedGroup × X)) (gs : List ListedGroup) (q : ListedGroup) →
      lookup (is_at (listed_cmp q)) (in_order pairs gs) ≡ cond (list_any (is_at (listed_cmp q)) gs) (Some (members_in q pairs)) None
  in_order_found pairs [] q = refl
  in_order_found pairs (g ∷ gs) q =
      found_put listed_cmp groups_total groups_exact g (members_in g pairs) (in_order pairs gs) q
      ∙ elim (cases_Bool (is_eq (listed_cmp q g))) [
        | inl there ↦ (let same : q ≡ g = groups_exact q g ((Equal-is (listed_cmp q g)).0 there) in rw there (ap (λ h. Some (members_in h pairs)) (sym same)))
        | inr apart ↦ rw apart (in_order_found pairs gs q)
      ]

  -- entries in order under which stands what is paired with each group are the groups
  pub grouped_are : (entries : List (ListedGroup × List X)) (pairs : List (ListedGroup × X)) → IsStrictlySortedBy listed_cmp (keys_of entries) →
      ((g : ListedGroup) → lookup (is_at (listed_cmp g)) entries ≡ unless_empty (members_in g pairs)) → entries ≡ grouped pairs
  grouped_are entries pairs sorted found =
      same_entries listed_cmp groups_total groups_exact entries (grouped pairs) sorted (in_order_sorted pairs (map (λ pair. pair.0) pairs))
      (λ q. found q ∙ sym (in_order_found pairs (map (λ pair. pair.0) pairs) q ∙ listed_members q pairs))

-- the groups of other pairs of the same groups
pub grouped_by : {X Y : Type 0} (f : List X → List Y) (pairs : List (ListedGroup × X)) (others : List (ListedGroup × Y)) →
    map (λ (pair : ListedGroup × X). pair.0) pairs ≡ map (λ (pair : ListedGroup × Y). pair.0) others → ((g : ListedGroup) → f (members_in g pairs) ≡ members_in g others) →
    map (λ (entry : ListedGroup × List X). (entry.0, f entry.1)) (grouped pairs) ≡ grouped others
grouped_by {X} {Y} f pairs others same members = go (map (λ pair. pair.0) pairs) ∙ ap (in_order others) same
  where
    go : (gs : List ListedGroup) → map (λ (entry : ListedGroup × List X). (entry.0, f entry.1)) (in_order pairs gs) ≡ in_order others gs
    go [] = refl
    go (g ∷ gs) =
        put_values listed_cmp groups_total groups_exact f g (members_in g pairs) (in_order pairs gs)
        ∙ ap₂ (λ es v. insert_entry listed_cmp es g v) (go gs) (members g)

-- ---- places that come

unless-push : {X : Type 0} (xs : List X) (x : X) → unless_empty (xs ++ x ∷ []) ≡ Some (xs ++ x ∷ [])
unless-push [] x = refl
unless-push (y ∷ xs) x = refl

or_none : {X : Type 0} (xs : List X) → unwrap_or (unless_empty xs) [] ≡ xs
or_none [] = refl
or_none (x ∷ xs) = refl

-- one place came to a group
pub put_one : (old new : List (ListedGroup × List ℕ)) (pairs : List (ListedGroup × ℕ)) (g : ListedGroup) (place : ℕ) (was now : List ℕ) →
    AreGrouped old pairs → was ≡ unwrap_or (lookup (is_at (listed_cmp g)) old) [] → now ≡ was ++ place ∷ [] →
    ((q : ListedGroup) → lookup (is_at (listed_cmp q)) new ≡ cond (is_eq (listed_cmp g q)) (Some now) (lookup (is_at (listed_cmp q)) old)) →
    AreGrouped new (pairs ++ (g, place) ∷ [])
put_one old new pairs g place was now so_far found pushed look q =
    elim (cases_Bool (is_eq (listed_cmp g q))) [
      | inl there ↦ (
          let same : g ≡ q = groups_exact g q ((Equal-is (listed_cmp g q)).0 there) in
          let own : is_eq (listed_cmp q g) ≡ true = ap (λ h. is_eq (listed_cmp q h)) same ∙ ap is_eq (tied_itself groups_total q) in
          let before : was ≡ members_in q pairs = found ∙ ap (λ h. unwrap_or (lookup (is_at (listed_cmp h)) old) []) same ∙ ap (λ o. unwrap_or o []) (so_far q) ∙ or_none (members_in q pairs) in
          let members : members_in q (pairs ++ (g, place) ∷ []) ≡ members_in q pairs ++ place ∷ [] = members-append q pairs ((g, place) ∷ []) ∙ rw own refl in
          look q ∙ rw there (ap Some (pushed ∙ ap (λ ps. ps ++ place ∷ []) before)) ∙ sym (ap unless_empty members ∙ unless-push (members_in q pairs) place))
      | inr apart ↦ (
          let other : is_eq (listed_cmp q g) ≡ false = (eq_by_cmp_equiv groups_total).symm q g ∙ apart in
          let members : members_in q (pairs ++ (g, place) ∷ []) ≡ members_in q pairs = members-append q pairs ((g, place) ∷ []) ∙ rw other (append-nil (members_in q pairs)) in
          look q ∙ rw apart (so_far q) ∙ sym (ap unless_empty members))
    ]

-- ---- in the map

-- what is found of lists of places
pub found_places : (old : List (ListedGroup × Vec ℕ Global)) (g : ListedGroup) (fresh : Vec ℕ Global) → fresh.items ≡ [] →
    (unwrap_or (lookup (is_at (listed_cmp g)) old) fresh).items ≡ unwrap_or (lookup (is_at (listed_cmp g)) (places_by old)) []
found_places old g fresh none =
    by_found (lookup (is_at (listed_cmp g)) old) ∙ ap (λ o. unwrap_or o []) (sym (found_values listed_cmp groups_total groups_exact (λ (v : Vec ℕ Global). v.items) old g))
  where
    by_found : (found : Option (Vec ℕ Global)) → (unwrap_or found fresh).items ≡ unwrap_or (option_map (λ (v : Vec ℕ Global). v.items) found) []
    by_found None = none
    by_found (Some v) = refl

pub look_places : (old new : List (ListedGroup × Vec ℕ Global)) (g : ListedGroup) (now : Vec ℕ Global) →
    ((q : ListedGroup) → lookup (is_at (listed_cmp q)) new ≡ cond (is_eq (listed_cmp g q)) (Some now) (lookup (is_at (listed_cmp q)) old)) →
    (q : ListedGroup) → lookup (is_at (listed_cmp q)) (places_by new) ≡ cond (is_eq (listed_cmp g q)) (Some now.items) (lookup (is_at (listed_cmp q)) (places_by old))
look_places old new g now look q =
    let items : Vec ℕ Global → List ℕ = λ v. v.items in
    found_values listed_cmp groups_total groups_exact items new q ∙ ap (option_map items) (look q)
    ∙ by_test (is_eq (listed_cmp g q))
    ∙ ap (λ o. cond (is_eq (listed_cmp g q)) (Some now.items) o) (sym (found_values listed_cmp groups_total groups_exact items old q))
  where
    by_test : (b : Bool) → option_map (λ (v : Vec ℕ Global). v.items) (cond b (Some now) (lookup (is_at (listed_cmp q)) old))
        ≡ cond b (Some now.items) (option_map (λ (v : Vec ℕ Global). v.items) (lookup (is_at (listed_cmp q)) old))
    by_test true = refl
    by_test false = refl

-- the same map
pub grouped_same : (n m : List (ListedGroup × Vec ℕ Global)) (pairs : List (ListedGroup × ℕ)) (g : ListedGroup) (place : ℕ) →
    AreGrouped (places_by m) (pairs ++ (g, place) ∷ []) → n ≡ m → AreGrouped (places_by n) (pairs ++ (g, place) ∷ [])
grouped_same n m pairs g place held same q = ap (λ es. lookup (is_at (listed_cmp q)) (places_by es)) same ∙ held q

pub sorted_places : (entries : List (ListedGroup × Vec ℕ Global)) → IsStrictlySortedBy listed_cmp (keys_of entries) → IsStrictlySortedBy listed_cmp (keys_of (places_by entries))
sorted_places entries sorted =
    subst (IsStrictlySortedBy listed_cmp)
    (sym (map-map (λ (e : ListedGroup × List ℕ). e.0) (λ (e : ListedGroup × Vec ℕ Global). let made : ListedGroup × List ℕ = (e.0, e.1.items) in made) entries)) sorted
