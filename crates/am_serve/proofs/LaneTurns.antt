-- Which tenant is the first that can begin.
use Rattle.std.proofs.Common.{◌≡◌, ℕ, Bool, true, false, cond, not, ◌&&◌, ◌||◌, ◌⊎◌, inl, inr, arith, nat_lt, List, [], ◌∷◌, ◌++◌, length, Option, Some, None, refl, sym, ap, ◌∙◌, subst}
use Rattle.std.proofs.lemmas.Bool.{and_from, and_parts, and_right, le-ltb, not-true, false≢true}
use Rattle.std.proofs.lemmas.List.Kept.{IsStrictlySortedBy-filter}
use Rattle.std.proofs.lemmas.Map.{lookup-none}
use Rattle.std.proofs.lemmas.Map.Entries.{lookup-filter-keys, none_below_head}
use Rattle.std.proofs.lemmas.Map.Keys.{sorted_tail}
use Rattle.std.proofs.lemmas.Map.Lookups.{exact_bytes}
use Rattle.std.specs.BTreeMap as tree
use Rattle.std.specs.BTreeMap.Range.{range_contains}
use Rattle.std.specs.Cmp.Lexicographic.{slice_cmp, nat_list_cmp_total}
use Rattle.std.specs.List.{filter, list_all}
use Rattle.std.specs.List.Sorted.{IsStrictlySortedBy}
use Rattle.std.specs.Map.{keys_of, lookup}
use Rattle.std.specs.Ordering.{is_eq, is_lt, nat_cmp}
use Rattle.std.specs.declared.cmp.Ordering.{Ordering}
use Rattle.std.specs.declared.cmp.Ordering.TheVariants.{Less, Equal, Greater}
use Rattle.std.specs.declared.ops.Bound.{Bound}
use Rattle.std.specs.declared.ops.Bound.TheVariants.{Excluded, Unbounded}
use Rattle.am_serve.specs.declared.lanes.Lane.{Lane}
use Rattle.am_serve.specs.Lanes.{can_begin, comes_before, is_after, is_below, is_ready, under_way_in, under_way_of, waiting_in, waiting_of}
use Rattle.am_tenant.proofs.Tables.{lookup-by_name}

-- the order of names
abbrev name_cmp : List ℕ → List ℕ → Ordering
name_cmp = slice_cmp nat_cmp

-- a name that a look-up takes for t is t
same_name : (t name : List ℕ) → tree.is_at (name_cmp t) name ≡ true → name ≡ t
same_name t name found = sym (exact_bytes t name (equal (name_cmp t name) found))
  where
    equal : (order : Ordering) → is_eq order ≡ true → order ≡ Equal
    equal Less e = absurd (false≢true e)
    equal Equal e = refl
    equal Greater e = absurd (false≢true e)

-- a name that stands before another is less
less : (order : Ordering) → is_lt order ≡ true → order ≡ Less
less Less e = refl
less Equal e = absurd (false≢true e)
less Greater e = absurd (false≢true e)

module _ {T : Type 0} where
  -- a look-up found a lane that can begin
  abbrev pub found_begins : ℕ → Option (Lane T) → Bool
  found_begins free found = nat_lt 0 (length (waiting_in found)) && nat_lt (under_way_in found) free

  -- none of these lanes can begin
  abbrev pub NoneBegins : ℕ → List (List ℕ × Lane T) → Type 0
  NoneBegins free entries = list_all (λ entry. not (can_begin free entry.1)) entries ≡ true

  -- then no look-up finds one that can
  pub none_found : (free : ℕ) (test : List ℕ → Bool) (entries : List (List ℕ × Lane T)) → NoneBegins free entries → found_begins free (lookup test entries) ≡ false
  none_found free test [] none = refl
  none_found free test (entry ∷ entries) none =
      let parts = and_parts (not (can_begin free entry.1)) (list_all (λ (e : List ℕ × Lane T). not (can_begin free e.1)) entries) none in
      by_case (test entry.0) (not-true (can_begin free entry.1) parts.0) (none_found free test entries parts.1)
    where
      by_case : (b : Bool) → can_begin free entry.1 ≡ false → found_begins free (lookup test entries) ≡ false → found_begins free (cond b (Some entry.1) (lookup test entries)) ≡ false
      by_case true here later = here
      by_case false here later = later

  -- names before the first lane that can begin find none that can
  pub none_before : (free : ℕ) (t : List ℕ) (passed : List (List ℕ × Lane T)) (entry : List ℕ × Lane T) (rest : List (List ℕ × Lane T))
      → IsStrictlySortedBy (slice_cmp nat_cmp) (keys_of (passed ++ (entry ∷ rest))) → NoneBegins free passed → is_below t entry.0 ≡ true
      → found_begins free (lookup (tree.is_at (slice_cmp nat_cmp t)) (passed ++ (entry ∷ rest))) ≡ false
  none_before free t [] entry rest sorted none below =
      ap (found_begins free)
      (lookup-none (tree.is_at (name_cmp t)) (entry ∷ rest) (none_below_head nat_list_cmp_total t entry rest sorted (less (name_cmp t entry.0) below)))
  none_before free t (first ∷ passed) entry rest sorted none below =
      let parts = and_parts (not (can_begin free first.1)) (list_all (λ (e : List ℕ × Lane T). not (can_begin free e.1)) passed) none in
      by_case (tree.is_at (name_cmp t) first.0) (not-true (can_begin free first.1) parts.0)
      (none_before free t passed entry rest (sorted_tail name_cmp first.0 (keys_of (passed ++ (entry ∷ rest))) sorted) parts.1 below)
    where
      by_case : (b : Bool) → can_begin free first.1 ≡ false → found_begins free (lookup (tree.is_at (slice_cmp nat_cmp t)) (passed ++ (entry ∷ rest))) ≡ false
          → found_begins free (cond b (Some first.1) (lookup (tree.is_at (slice_cmp nat_cmp t)) (passed ++ (entry ∷ rest)))) ≡ false
      by_case true here later = here
      by_case false here later = later

  -- the keys of a part by keys
  keys_filter : (p : List ℕ → Bool) (entries : List (List ℕ × Lane T)) → filter p (keys_of entries) ≡ keys_of (filter (λ entry. p entry.0) entries)
  keys_filter p [] = refl
  keys_filter p (entry ∷ entries) = by_case (p entry.0) (keys_filter p entries)
    where
      by_case : (b : Bool) → filter p (keys_of entries) ≡ keys_of (filter (λ (e : List ℕ × Lane T). p e.0) entries)
          → cond b (entry.0 ∷ filter p (keys_of entries)) (filter p (keys_of entries))
          ≡ keys_of (cond b (entry ∷ filter (λ (e : List ℕ × Lane T). p e.0) entries) (filter (λ (e : List ℕ × Lane T). p e.0) entries))
      by_case true rest = ap (λ (names : List (List ℕ)). entry.0 ∷ names) rest
      by_case false rest = rest

  -- a part by keys is in order
  pub sorted_part : (p : List ℕ → Bool) (entries : List (List ℕ × Lane T)) → IsStrictlySortedBy (slice_cmp nat_cmp) (keys_of entries) → IsStrictlySortedBy (slice_cmp nat_cmp) (keys_of (filter (λ entry. p entry.0) entries))
  sorted_part p entries sorted =
      subst (IsStrictlySortedBy (slice_cmp nat_cmp)) (keys_filter p entries) (IsStrictlySortedBy-filter (slice_cmp nat_cmp) p (keys_of entries) sorted)

  -- a name of the part is found there as in the whole
  pub found_in_part : (p : List ℕ → Bool) (t : List ℕ) (entries : List (List ℕ × Lane T)) → p t ≡ true → lookup (tree.is_at (slice_cmp nat_cmp t)) entries ≡ lookup (tree.is_at (slice_cmp nat_cmp t)) (filter (λ entry. p entry.0) entries)
  found_in_part p t entries within =
      sym (lookup-filter-keys (tree.is_at (name_cmp t)) p true (λ name found. ap p (same_name t name found) ∙ within) entries)

  -- a lane that can begin is that of a tenant that is ready
  pub ready_at : (free : ℕ) (lanes : tree.BTreeMap (List ℕ) (Lane T)) (tenant : List ℕ) (lane : Lane T)
      → tree.get (slice_cmp nat_cmp) lanes tenant ≡ Some lane → can_begin free lane ≡ true → is_ready free tenant lanes ≡ true
  unfolding is_ready waiting_of under_way_of
  ready_at free lanes tenant lane there begins = ap (found_begins free) (sym (lookup-by_name tenant lanes.entries) ∙ there) ∙ begins

  -- no tenant of a part is ready before the first lane of it that can begin
  pub none_before_in : (free : ℕ) (lanes : tree.BTreeMap (List ℕ) (Lane T)) (p : List ℕ → Bool) (part passed : List (List ℕ × Lane T)) (entry : List ℕ × Lane T) (rest : List (List ℕ × Lane T))
      → tree.IsOrdered (slice_cmp nat_cmp) lanes → part ≡ filter (λ e. p e.0) lanes.entries → part ≡ passed ++ (entry ∷ rest) → NoneBegins free passed
      → (t : List ℕ) → p t ≡ true → is_below t entry.0 ≡ true → is_ready free t lanes ≡ false
  unfolding is_ready waiting_of under_way_of
  none_before_in free lanes p part passed entry rest ordered is split none t within below =
      let same_part : filter (λ (e : List ℕ × Lane T). p e.0) lanes.entries ≡ passed ++ (entry ∷ rest) = sym is ∙ split in
      let sorted : IsStrictlySortedBy (slice_cmp nat_cmp) (keys_of (passed ++ (entry ∷ rest))) =
      subst (λ (es : List (List ℕ × Lane T)). IsStrictlySortedBy (slice_cmp nat_cmp) (keys_of es)) same_part (sorted_part p lanes.entries ordered) in
      ap (found_begins free)
      (sym (lookup-by_name t lanes.entries) ∙ found_in_part p t lanes.entries within ∙ ap (lookup (tree.is_at (slice_cmp nat_cmp t))) same_part)
      ∙ none_before free t passed entry rest sorted none below

  -- nor at all, where none of its lanes can begin
  pub none_in : (free : ℕ) (lanes : tree.BTreeMap (List ℕ) (Lane T)) (p : List ℕ → Bool) (part : List (List ℕ × Lane T))
      → part ≡ filter (λ e. p e.0) lanes.entries → NoneBegins free part → (t : List ℕ) → p t ≡ true → is_ready free t lanes ≡ false
  unfolding is_ready waiting_of under_way_of
  none_in free lanes p part is none t within =
      ap (found_begins free)
      (sym (lookup-by_name t lanes.entries) ∙ found_in_part p t lanes.entries within ∙ ap (lookup (tree.is_at (slice_cmp nat_cmp t))) (sym is))
      ∙ none_found free (tree.is_at (slice_cmp nat_cmp t)) part none

-- the names within a part that begins after a name
pub part_after : (start : Bound (List ℕ)) (after : Option (List ℕ)) (name : List ℕ) → after ≡ Some name → start ≡ Excluded name → (t : List ℕ) → is_after after t ≡ true → range_contains (slice_cmp nat_cmp) start Unbounded t ≡ true
part_after start after name some is t h =
    let below : is_below name t ≡ true = sym (ap (λ a. is_after a t) some) ∙ h in
    ap (λ bound. range_contains (slice_cmp nat_cmp) bound Unbounded t) is ∙ and_from (is_below name t) true below refl

-- all names
pub part_whole : (start : Bound (List ℕ)) → start ≡ Unbounded → (t : List ℕ) → range_contains (slice_cmp nat_cmp) start Unbounded t ≡ true
part_whole start is t = ap (λ bound. range_contains (slice_cmp nat_cmp) bound Unbounded t) is

-- up from the last turn to the first tenant after it: none comes before that but those between
pub turn_up : (ready : List ℕ → Bool) (last : Option (List ℕ)) (u : List ℕ) → is_after last u ≡ true
    → ((t : List ℕ) → is_after last t ≡ true → is_below t u ≡ true → ready t ≡ false) → (t : List ℕ) → comes_before last t u ≡ true → ready t ≡ false
unfolding comes_before
turn_up ready None u after none t before = none t refl before
turn_up ready (Some last) u after none t before =
    let parts = between (is_below last t) (is_below last u) (is_below t u) after before in
    none t parts.0 parts.1
  where
    between : (p q r : Bool) → q ≡ true → ((p && r) || (r && not q) || (not q && p)) ≡ true → (p ≡ true) × (r ≡ true)
    between true true true e h = (refl, refl)
    between true true false e h = absurd (false≢true h)
    between false true true e h = absurd (false≢true h)
    between false true false e h = absurd (false≢true h)
    between p false r e h = absurd (false≢true e)

-- and around, where none after it is ready: those after it, and those below
pub turn_around : (ready : List ℕ → Bool) (last : Option (List ℕ)) (u : List ℕ) → ((t : List ℕ) → is_after last t ≡ true → ready t ≡ false)
    → ((t : List ℕ) → is_below t u ≡ true → ready t ≡ false) → (t : List ℕ) → comes_before last t u ≡ true → ready t ≡ false
unfolding comes_before
turn_around ready None u above below t before = below t before
turn_around ready (Some last) u above below t before =
    elim (either (is_below last t) (is_below last u) (is_below t u) before) [ inl p ↦ above t p | inr r ↦ below t r ]
  where
    either : (p q r : Bool) → ((p && r) || (r && not q) || (not q && p)) ≡ true → (p ≡ true) ⊎ (r ≡ true)
    either true q r h = inl refl
    either false q true h = inr refl
    either false true false h = absurd (false≢true h)
    either false false false h = absurd (false≢true h)

-- where no place is free, none is ready
pub none_at_zero : {T : Type 0} (free : ℕ) (lanes : tree.BTreeMap (List ℕ) (Lane T)) → free ≡ 0 → (t : List ℕ) → is_ready free t lanes ≡ false
unfolding is_ready
none_at_zero free lanes zero t = and_right (nat_lt 0 (length (waiting_of t lanes))) (nat_lt (under_way_of t lanes) free) (le-ltb (under_way_of t lanes) free (omega arith))
