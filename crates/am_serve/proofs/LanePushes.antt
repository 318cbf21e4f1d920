-- What an item that is put behind the others makes.
use Rattle.std.proofs.Common.{◌≡◌, ℕ, nat_lt, List, [], ◌∷◌, ◌++◌, length, Option, Some, Result, Ok, Err, OnErr, IfSome, IsTrue, refl, sym, ap, ◌∙◌, subst, arith, length-append}
use Rattle.std.proofs.lemmas.Bool.{lt-ltb, or_left}
use Rattle.std.proofs.lemmas.Map.Views.{All-values-insert_entry, IfSome-lookup_from_All}
use Rattle.std.specs.BTreeMap as tree
use Rattle.std.specs.Cmp.Lexicographic.{slice_cmp}
use Rattle.std.specs.Map.{lookup}
use Rattle.std.specs.Ordering.{nat_cmp}
use Rattle.am_serve.specs.declared.lanes.Lane.{Lane}
use Rattle.am_serve.specs.Lanes.{AreNeeded, is_needed}
use Rattle.am_serve.proofs.LaneChanges.{Changes, lane_at, once}

-- what holds anyway holds after an error
pub on_err : {X E : Type 0} {P : Type 0} (r : Result X E) → P → OnErr r P
on_err (Ok value) h = tt
on_err (Err error) h = h

module _ {T : Type 0} where
  -- a lane that came where there was none
  pub came : (old middle new : tree.BTreeMap (List ℕ) (Lane T)) (tenant : List ℕ) (lane : Lane T)
      → middle ≡ old → tree.Updates (slice_cmp nat_cmp) middle new tenant (Some lane) → Changes old new tenant (Some lane)
  came old middle new tenant lane is updates =
      subst (λ (lanes : tree.BTreeMap (List ℕ) (Lane T)). Changes lanes new tenant (Some lane)) is (once middle new tenant (Some lane) updates)

  -- all lanes are needed where the one that came is
  pub needed_came : (old middle new : tree.BTreeMap (List ℕ) (Lane T)) (tenant : List ℕ) (lane : Lane T)
      → middle ≡ old → new.entries ≡ tree.insert_entry (slice_cmp nat_cmp) middle.entries tenant lane → AreNeeded old → IsTrue (is_needed lane) → AreNeeded new
  needed_came old middle new tenant lane is entries all one =
      let inserted : new.entries ≡ tree.insert_entry (slice_cmp nat_cmp) old.entries tenant lane =
      entries ∙ ap (λ (lanes : tree.BTreeMap (List ℕ) (Lane T)). tree.insert_entry (slice_cmp nat_cmp) lanes.entries tenant lane) is in
      rw inserted (All-values-insert_entry (slice_cmp nat_cmp) tenant lane (λ (l : Lane T). IsTrue (is_needed l)) old.entries all one)

  -- the entries stayed
  pub needed_stays : (old middle new : tree.BTreeMap (List ℕ) (Lane T)) → middle ≡ old → new.entries ≡ middle.entries → AreNeeded old → AreNeeded new
  needed_stays old middle new is entries all =
      let same_entries : new.entries ≡ old.entries = entries ∙ ap (λ (lanes : tree.BTreeMap (List ℕ) (Lane T)). lanes.entries) is in
      rw same_entries all

  -- and with them what is seen of every tenant
  pub seen_stays : {X : Type 0} (seen : Option (Lane T) → X) (old middle new : tree.BTreeMap (List ℕ) (Lane T)) → middle ≡ old → new.entries ≡ middle.entries → (t : List ℕ) → seen (lane_at new t) ≡ seen (lane_at old t)
  seen_stays seen old middle new is entries t =
      let same_entries : new.entries ≡ old.entries = entries ∙ ap (λ (lanes : tree.BTreeMap (List ℕ) (Lane T)). lanes.entries) is in
      rw same_entries refl

  -- a lane in which something waits is needed
  pub needed_waiting : (lane : Lane T) (items : List T) (item : T) → lane.waiting.items ≡ items ++ item ∷ [] → IsTrue (is_needed lane)
  needed_waiting lane items item is =
      or_left (nat_lt 0 (length lane.waiting.items)) (nat_lt 0 lane.under_way)
      (lt-ltb 0 (length lane.waiting.items) (omega (arith, length-append items (item ∷ []), ap length is)))

  -- one of the lanes is needed, and so is one in which as much waits and is under way
  pub needed_alike : (lanes : tree.BTreeMap (List ℕ) (Lane T)) (tenant : List ℕ) (was lane : Lane T) → AreNeeded lanes
      → Some was ≡ lookup (tree.is_at (slice_cmp nat_cmp tenant)) lanes.entries → lane.waiting.items ≡ was.waiting.items → lane.under_way ≡ was.under_way → IsTrue (is_needed lane)
  needed_alike lanes tenant was lane all found items count =
      let one : IfSome (lookup (tree.is_at (slice_cmp nat_cmp tenant)) lanes.entries) (λ l. IsTrue (is_needed l)) =
      IfSome-lookup_from_All (λ (l : Lane T). IsTrue (is_needed l)) (tree.is_at (slice_cmp nat_cmp tenant)) lanes.entries all in
      let it : IsTrue (is_needed was) = subst (λ (o : Option (Lane T)). IfSome o (λ l. IsTrue (is_needed l))) (sym found) one in
      rw (items, count) it
