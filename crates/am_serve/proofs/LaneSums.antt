-- How many bytes wait, once the lane of one tenant is changed.
use Rattle.std.proofs.Common.{◌≡◌, ℕ, ◌+◌, ◌≤◌, List, [], ◌∷◌, ◌++◌, Option, Some, None, IfSome}
use Rattle.std.proofs.Common.{Ordering, Less, Equal, Greater, refl, sym, ap, ◌∙◌, subst, arith, sum_by, unwrap_or, option_map}
use Rattle.std.specs.Prelude.{if◌then◌else◌}
use Rattle.std.proofs.lemmas.List.Sums.{sum_by-append, sum_by-cons}
use Rattle.std.proofs.lemmas.Map.Entries.{sum_by-remove_entry, sum_by-set_value}
use Rattle.std.proofs.lemmas.Map.Views.{All-map-remove_entry, All-values-insert_entry, All-values-set_value}
use Rattle.std.proofs.lemmas.Map.Views.{IfSome-lookup_from_All}
use Rattle.std.specs.BTreeMap as tree
use Rattle.std.specs.Cmp.Lexicographic.{slice_cmp}
use Rattle.std.specs.Map.{lookup, remove_entry, values_of}
use Rattle.std.specs.Ordering.{is_eq, match_ordering, nat_cmp}
use Rattle.am_serve.specs.declared.lanes.Lane.{Lane}
use Rattle.am_serve.specs.Weights.{AreCounted, all_bytes, bytes_in}
use Rattle.am_serve.proofs.LaneChanges.{removed_written}

module _ {K X : Type 0} (f : X → ℕ) where
  -- a value that came at a key that no look-up found adds its own term
  pub sum_came : (cmp : K → K → Ordering) (entries : List (K × X)) (key : K) (value : X)
      → None ≡ lookup (tree.is_at (cmp key)) entries
      → sum_by f (values_of (tree.insert_entry cmp entries key value)) ≡ sum_by f (values_of entries) + f value
  sum_came cmp [] key value none = omega (arith, sum_by-cons f value [])
  sum_came cmp (entry ∷ entries) key value none = by_case (cmp key entry.0) none (sum_came cmp entries key value)
    where
      by_case : (order : Ordering)
          → None ≡ (if is_eq order then Some entry.1 else lookup (tree.is_at (cmp key)) entries)
          → (None ≡ lookup (tree.is_at (cmp key)) entries
          → sum_by f (values_of (tree.insert_entry cmp entries key value)) ≡ sum_by f (values_of entries) + f value)
          → sum_by f (values_of (match_ordering order ((key, value) ∷ entry ∷ entries) ((entry.0, value) ∷ entries)
          (entry ∷ tree.insert_entry cmp entries key value))) ≡ sum_by f (values_of (entry ∷ entries)) + f value
      by_case Less none later = omega (arith, sum_by-cons f value (values_of (entry ∷ entries)))
      by_case Equal none later = absurd (none_some none)
        where
          none_some : {Y : Type 0} {y : Y} → None ≡ Some y → ⊥
          none_some e = subst (λ (o : Option _). IfSome o (λ _. ⊥)) e tt
      by_case Greater none later =
          omega (
            arith,
            sum_by-cons f entry.1 (values_of entries),
            sum_by-cons f entry.1 (values_of (tree.insert_entry cmp entries key value)),
            later none,
          )

module _ {T : Type 0} (weight : T → ℕ) where
  -- an item that came behind the others adds its weight
  pub added : (old new : List T) (item : T) → new ≡ old ++ item ∷ []
      → sum_by weight new ≡ sum_by weight old + weight item
  added old new item is =
      ap (sum_by weight) is ∙ omega (arith, sum_by-append weight old (item ∷ []), sum_by-cons weight item [])

  -- a lane without its first item has less by its weight
  pub left : (was : Lane T) (rest : List T) (item : T) → was.bytes ≡ bytes_in weight was
      → was.waiting.items ≡ item ∷ rest → weight item + sum_by weight rest ≡ was.bytes
  left was rest item counted is = omega (arith, counted, ap (sum_by weight) is, sum_by-cons weight item rest)

  -- what holds of all lanes holds of one
  pub counted_at : (lanes : tree.BTreeMap (List ℕ) (Lane T)) (tenant : List ℕ) (lane : Lane T)
      → AreCounted weight lanes → Some lane ≡ lookup (tree.is_at (slice_cmp nat_cmp tenant)) lanes.entries
      → lane.bytes ≡ bytes_in weight lane
  counted_at lanes tenant lane all found =
      subst (λ (o : Option (Lane T)). IfSome o (λ l. l.bytes ≡ bytes_in weight l)) (sym found)
      (IfSome-lookup_from_All (λ (l : Lane T). l.bytes ≡ bytes_in weight l)
      (tree.is_at (slice_cmp nat_cmp tenant)) lanes.entries all)

  -- no lane has more bytes than all
  pub bytes_below : (lanes : tree.BTreeMap (List ℕ) (Lane T)) (tenant : List ℕ) (lane : Lane T)
      → Some lane ≡ lookup (tree.is_at (slice_cmp nat_cmp tenant)) lanes.entries
      → bytes_in weight lane ≤ all_bytes weight lanes
  bytes_below lanes tenant lane found =
      omega (
        arith,
        sum_by-remove_entry (bytes_in weight) (tree.is_at (slice_cmp nat_cmp tenant)) lanes.entries,
        ap (λ (o : Option (Lane T)). unwrap_or (option_map (bytes_in weight) o) 0) found,
      )

  -- where a lane was written, all lanes are counted if it is
  pub counted_written : (old new : tree.BTreeMap (List ℕ) (Lane T)) (tenant : List ℕ) (lane : Lane T)
      → tree.WritesThrough (slice_cmp nat_cmp) (slice_cmp nat_cmp tenant) old lane new
      → AreCounted weight old → lane.bytes ≡ bytes_in weight lane → AreCounted weight new
  counted_written old new tenant lane through all one =
      rw through.0 (All-values-set_value (tree.is_at (slice_cmp nat_cmp tenant))
      (λ (l : Lane T). l.bytes ≡ bytes_in weight l) old.entries lane all one)

  -- and all bytes change by its own
  pub bytes_written : (old new : tree.BTreeMap (List ℕ) (Lane T)) (tenant : List ℕ) (was lane : Lane T)
      → Some was ≡ lookup (tree.is_at (slice_cmp nat_cmp tenant)) old.entries
      → tree.WritesThrough (slice_cmp nat_cmp) (slice_cmp nat_cmp tenant) old lane new
      → all_bytes weight new + bytes_in weight was ≡ all_bytes weight old + bytes_in weight lane
  bytes_written old new tenant was lane found through =
      rw through.0 (sum_by-set_value (bytes_in weight) (tree.is_at (slice_cmp nat_cmp tenant)) old.entries was lane
      (sym found))

  -- the same where a lane came
  pub counted_came : (old middle new : tree.BTreeMap (List ℕ) (Lane T)) (tenant : List ℕ) (lane : Lane T)
      → middle ≡ old → new.entries ≡ tree.insert_entry (slice_cmp nat_cmp) middle.entries tenant lane
      → AreCounted weight old → lane.bytes ≡ bytes_in weight lane → AreCounted weight new
  counted_came old middle new tenant lane is entries all one =
      let inserted : new.entries ≡ tree.insert_entry (slice_cmp nat_cmp) old.entries tenant lane =
      entries ∙ ap (λ (l : tree.BTreeMap (List ℕ) (Lane T)). tree.insert_entry (slice_cmp nat_cmp) l.entries tenant lane) is in
      rw inserted (All-values-insert_entry (slice_cmp nat_cmp) tenant lane
      (λ (l : Lane T). l.bytes ≡ bytes_in weight l) old.entries all one)

  pub bytes_came : (old middle new : tree.BTreeMap (List ℕ) (Lane T)) (tenant : List ℕ) (lane : Lane T)
      → middle ≡ old → new.entries ≡ tree.insert_entry (slice_cmp nat_cmp) middle.entries tenant lane
      → None ≡ lookup (tree.is_at (slice_cmp nat_cmp tenant)) old.entries
      → all_bytes weight new ≡ all_bytes weight old + bytes_in weight lane
  bytes_came old middle new tenant lane is entries none =
      let inserted : new.entries ≡ tree.insert_entry (slice_cmp nat_cmp) old.entries tenant lane =
      entries ∙ ap (λ (l : tree.BTreeMap (List ℕ) (Lane T)). tree.insert_entry (slice_cmp nat_cmp) l.entries tenant lane) is in
      rw inserted (sum_came (bytes_in weight) (slice_cmp nat_cmp) old.entries tenant lane none)

  -- the entries stayed
  pub counted_stays : (old middle new : tree.BTreeMap (List ℕ) (Lane T)) → middle ≡ old
      → new.entries ≡ middle.entries → AreCounted weight old → AreCounted weight new
  counted_stays old middle new is entries all =
      let same_entries : new.entries ≡ old.entries =
      entries ∙ ap (λ (lanes : tree.BTreeMap (List ℕ) (Lane T)). lanes.entries) is in
      rw same_entries all

  pub bytes_stay : (old middle new : tree.BTreeMap (List ℕ) (Lane T)) → middle ≡ old
      → new.entries ≡ middle.entries → all_bytes weight new ≡ all_bytes weight old
  bytes_stay old middle new is entries =
      let same_entries : new.entries ≡ old.entries =
      entries ∙ ap (λ (lanes : tree.BTreeMap (List ℕ) (Lane T)). lanes.entries) is in
      rw same_entries refl

  -- a lane was written, and then removed
  pub counted_removed : (old middle new : tree.BTreeMap (List ℕ) (Lane T)) (tenant : List ℕ) (lane : Lane T)
      → tree.WritesThrough (slice_cmp nat_cmp) (slice_cmp nat_cmp tenant) old lane middle
      → new.entries ≡ remove_entry (tree.is_at (slice_cmp nat_cmp tenant)) middle.entries
      → AreCounted weight old → AreCounted weight new
  counted_removed old middle new tenant lane through removed all =
      let test = tree.is_at (slice_cmp nat_cmp tenant) in
      let gone : new.entries ≡ remove_entry test old.entries =
      removed ∙ ap (remove_entry test) through.0 ∙ removed_written test old.entries lane in
      rw gone (All-map-remove_entry test (λ (e : List ℕ × Lane T). e.1)
      (λ (l : Lane T). l.bytes ≡ bytes_in weight l) old.entries all)

  pub bytes_removed : (old middle new : tree.BTreeMap (List ℕ) (Lane T)) (tenant : List ℕ) (was lane : Lane T)
      → Some was ≡ lookup (tree.is_at (slice_cmp nat_cmp tenant)) old.entries
      → tree.WritesThrough (slice_cmp nat_cmp) (slice_cmp nat_cmp tenant) old lane middle
      → new.entries ≡ remove_entry (tree.is_at (slice_cmp nat_cmp tenant)) middle.entries
      → was.waiting.items ≡ [] → all_bytes weight new ≡ all_bytes weight old
  bytes_removed old middle new tenant was lane found through removed empty =
      let test = tree.is_at (slice_cmp nat_cmp tenant) in
      let gone : new.entries ≡ remove_entry test old.entries =
      removed ∙ ap (remove_entry test) through.0 ∙ removed_written test old.entries lane in
      let rest : all_bytes weight new ≡ sum_by (bytes_in weight) (values_of (remove_entry test old.entries)) =
      ap (λ (entries : List (List ℕ × Lane T)). sum_by (bytes_in weight) (values_of entries)) gone in
      omega (
        arith,
        rest,
        sum_by-remove_entry (bytes_in weight) test old.entries,
        ap (λ (o : Option (Lane T)). unwrap_or (option_map (bytes_in weight) o) 0) found,
        ap (sum_by weight) empty,
      )
