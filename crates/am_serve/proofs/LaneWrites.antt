-- What a write of one tenant's lane in place makes.
use Rattle.std.proofs.Common.{◌≡◌, ℕ, ◌+◌, ◌<◌, ◌≤◌, Bool, true, false, cond, nat_lt, List, [], ◌∷◌, length, Option, Some, None, IsSome, IsTrue, refl, sym, ap, ◌∙◌, arith}
use Rattle.std.proofs.lemmas.Bool.{and_parts, cond-true, false≢true, lt-ltb, ltb-false, ltb-true, or_parts, or_right}
use Rattle.std.proofs.lemmas.Map.Views.{All-map-remove_entry, All-values-set_value}
use Rattle.std.specs.BTreeMap as tree
use Rattle.std.specs.Cmp.Lexicographic.{slice_cmp}
use Rattle.std.specs.Map.{lookup, remove_entry}
use Rattle.std.specs.Ordering.{nat_cmp}
use Rattle.am_tenant.specs.Names.{same}
use Rattle.am_tenant.proofs.Same.{eq_from_same, same-refl}
use Rattle.am_serve.specs.declared.lanes.Lane.{Lane}
use Rattle.am_serve.specs.Lanes.{AreNeeded, is_needed, is_ready, under_way_of, waiting_in, waiting_of}
use Rattle.am_serve.proofs.LaneChanges.{Changes, found_at, lane_at, once, removed_written}
use Rattle.am_serve.proofs.LaneTurns.{found_begins}

module _ {T : Type 0} where
  -- the write changes the tenant's lane
  pub written : (old new : tree.BTreeMap (List ℕ) (Lane T)) (tenant : List ℕ) (was lane : Lane T)
      → Some was ≡ lookup (tree.is_at (slice_cmp nat_cmp tenant)) old.entries
      → tree.WritesThrough (slice_cmp nat_cmp) (slice_cmp nat_cmp tenant) old lane new → Changes old new tenant (Some lane)
  written old new tenant was lane found through =
      let there : IsSome (tree.get (slice_cmp nat_cmp) old tenant) = rw (← found) refl in
      once old new tenant (Some lane) (through.3 there)

  -- the tenant's lane after a change
  pub here : (old new : tree.BTreeMap (List ℕ) (Lane T)) (tenant : List ℕ) (lane : Option (Lane T)) → Changes old new tenant lane → lane_at new tenant ≡ lane
  here old new tenant lane changes = changes tenant ∙ cond-true _ lane (lane_at old tenant) (same-refl tenant)

  -- all lanes are needed where the one that was written is
  pub needed_written : (old new : tree.BTreeMap (List ℕ) (Lane T)) (tenant : List ℕ) (lane : Lane T)
      → tree.WritesThrough (slice_cmp nat_cmp) (slice_cmp nat_cmp tenant) old lane new → AreNeeded old → IsTrue (is_needed lane) → AreNeeded new
  needed_written old new tenant lane through all one =
      rw through.0 (All-values-set_value (tree.is_at (slice_cmp nat_cmp tenant)) (λ (l : Lane T). IsTrue (is_needed l)) old.entries lane all one)

  -- or removed
  pub needed_removed : (old middle new : tree.BTreeMap (List ℕ) (Lane T)) (tenant : List ℕ) (lane : Lane T)
      → tree.WritesThrough (slice_cmp nat_cmp) (slice_cmp nat_cmp tenant) old lane middle
      → new.entries ≡ remove_entry (tree.is_at (slice_cmp nat_cmp tenant)) middle.entries → AreNeeded old → AreNeeded new
  needed_removed old middle new tenant lane through removed all =
      let test = tree.is_at (slice_cmp nat_cmp tenant) in
      let gone : new.entries ≡ remove_entry test old.entries = removed ∙ ap (remove_entry test) through.0 ∙ removed_written test old.entries lane in
      rw gone (All-map-remove_entry test (λ (e : List ℕ × Lane T). e.1) (λ (l : Lane T). IsTrue (is_needed l)) old.entries all)

  -- a lane of which something is under way is needed
  pub needed_under_way : (lane : Lane T) (count : ℕ) → lane.under_way ≡ count + 1 → IsTrue (is_needed lane)
  needed_under_way lane count is = or_right (nat_lt 0 (length lane.waiting.items)) (nat_lt 0 lane.under_way) (lt-ltb 0 lane.under_way (omega arith))

  -- a tenant that is ready has a lane
  pub ready_there : (free : ℕ) (lanes : tree.BTreeMap (List ℕ) (Lane T)) (tenant : List ℕ)
      → None ≡ lookup (tree.is_at (slice_cmp nat_cmp tenant)) lanes.entries → is_ready free tenant lanes ≡ true → ⊥
  unfolding is_ready waiting_of under_way_of
  ready_there free lanes tenant none ready = false≢true (sym (ap (found_begins free) (found_at lanes tenant None none)) ∙ ready)

  -- in which something waits, and fewer are under way than there are places
  pub ready_parts : (free : ℕ) (lanes : tree.BTreeMap (List ℕ) (Lane T)) (tenant : List ℕ) (was : Lane T)
      → Some was ≡ lookup (tree.is_at (slice_cmp nat_cmp tenant)) lanes.entries → is_ready free tenant lanes ≡ true
      → (0 < length was.waiting.items) × (was.under_way < free)
  unfolding is_ready waiting_of under_way_of
  ready_parts free lanes tenant was found ready =
      let parts = and_parts (nat_lt 0 (length was.waiting.items)) (nat_lt was.under_way free) (sym (ap (found_begins free) (found_at lanes tenant (Some was) found)) ∙ ready) in
      (ltb-true 0 (length was.waiting.items) parts.0, ltb-true was.under_way free parts.1)

  -- the first item left
  pub first_left : (old new : tree.BTreeMap (List ℕ) (Lane T)) (tenant : List ℕ) (was lane : Lane T) (item : T)
      → Some was ≡ lookup (tree.is_at (slice_cmp nat_cmp tenant)) old.entries → Changes old new tenant (Some lane)
      → was.waiting.items ≡ item ∷ lane.waiting.items → waiting_of tenant old ≡ item ∷ waiting_of tenant new
  unfolding waiting_of
  first_left old new tenant was lane item found changes left =
      ap waiting_in (found_at old tenant (Some was) found) ∙ left
      ∙ ap (λ (found : Option (Lane T)). item ∷ waiting_in found) (sym (here old new tenant (Some lane) changes))

  -- a tenant without a lane: taking that away changes nothing
  pub absent : (lanes : tree.BTreeMap (List ℕ) (Lane T)) (tenant : List ℕ) → None ≡ lookup (tree.is_at (slice_cmp nat_cmp tenant)) lanes.entries → Changes lanes lanes tenant None
  absent lanes tenant none t = by_case (same t tenant) refl
    where
      by_case : (b : Bool) → same t tenant ≡ b → lane_at lanes t ≡ cond b None (lane_at lanes t)
      by_case true e = ap (lane_at lanes) (eq_from_same t tenant e) ∙ found_at lanes tenant None none
      by_case false e = refl

  -- in a lane that is no longer needed nothing waits, and nothing is under way
  pub nothing_left : (lane : Lane T) → is_needed lane ≡ false → (lane.waiting.items ≡ []) × (lane.under_way ≡ 0)
  nothing_left lane none =
      let parts = or_parts (nat_lt 0 (length lane.waiting.items)) (nat_lt 0 lane.under_way) none in
      let few : lane.under_way ≤ 0 = ltb-false 0 lane.under_way parts.1 in
      (no_items lane.waiting.items (ltb-false 0 (length lane.waiting.items) parts.0), omega arith)
    where
      no_items : (items : List T) → length items ≤ 0 → items ≡ []
      no_items [] few = refl
      no_items (item ∷ items) few = absurd (omega arith)
