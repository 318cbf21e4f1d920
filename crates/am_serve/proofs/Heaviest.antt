-- Of which tenant most bytes wait.
use Rattle.std.proofs.Common.{◌≡◌, ℕ, ◌<◌, ◌≤◌, Bool, true, false, cond, ◌&&◌, nat_lt, List, [], ◌∷◌, ◌++◌, length}
use Rattle.std.proofs.Common.{zero, suc, Option, Some, None, IfNone, IfSome, IsTrue, All, refl, sym, ap, ◌∙◌, subst, arith, sum_by, map}
use Rattle.std.proofs.Common.{eq-eqb, eqb-true, nat_eq, slice_index_or}
use Rattle.std.proofs.lemmas.Bool.{false≢true, ltb-false, ltb-true}
use Rattle.std.proofs.lemmas.List.Elements.{All-append, All-cons, All-map, All-nil}
use Rattle.std.proofs.lemmas.Map.Entries.{All-lookup}
use Rattle.std.specs.BTreeMap as tree
use Rattle.std.specs.Cmp.Lexicographic.{slice_cmp}
use Rattle.std.specs.Map.{lookup}
use Rattle.std.specs.Ordering.{nat_cmp}
use Rattle.am_tenant.proofs.Tables.{lookup-by_name}
use Rattle.am_serve.specs.declared.lanes.Lane.{Lane}
use Rattle.am_serve.specs.Lanes.{can_begin, is_ready, under_way_of, waiting_in, waiting_of}
use Rattle.am_serve.specs.Weights.{AreCounted, HoldsAll, IsHeaviest, all_bytes, bytes_of, heavier}
use Rattle.am_serve.proofs.LaneChanges.{found_at}
use Rattle.am_serve.proofs.LaneSums.{counted_at}
use Rattle.am_serve.proofs.LaneTurns.{found_begins, ready_at}

-- as many places as a number of 64 bits says
abbrev pub all_free : ℕ
all_free = 18446744073709551615

-- what holds of one holds of a list of it alone
All-one : {X : Type 0} (P : X → Type 0) (x : X) → P x → All P (x ∷ [])
All-one P x holds = All-cons P x [] holds (All-nil P)

-- what holds anyway holds of no value
pub on_none : {X P : Type 0} (r : Option X) → P → IfNone r P
on_none None holds = holds
on_none (Some value) holds = tt

-- a number that isn't positive
pub nothing : (n : ℕ) → (0 < n → IsTrue false) → n ≤ 0
nothing zero absent = omega arith
nothing (suc n) absent = absurd (false≢true (absent (omega arith)))

module _ {T : Type 0} where
  -- of the lanes seen so far that can begin none has more bytes
  abbrev pub IsAtMost : ℕ → Lane T → Type 0
  IsAtMost most lane = can_begin all_free lane ≡ true → lane.bytes ≤ most

  -- a tenant's lane can begin, and has these bytes
  pub record Has (lanes : tree.BTreeMap (List ℕ) (Lane T)) (found : List ℕ × ℕ) : Type 0 where
    pub lane : Lane T
    pub there : tree.get (slice_cmp nat_cmp) lanes found.0 ≡ Some lane
    pub begins : can_begin all_free lane ≡ true
    pub bytes : lane.bytes ≡ found.1

  -- the tenant that was found so far, of whose lanes these were seen
  abbrev pub IsMost : {E : Type 0} → (E → Lane T) → tree.BTreeMap (List ℕ) (Lane T) → Option (List ℕ × ℕ) → List E → Type 0
  IsMost shows lanes None seen = All (λ e. can_begin all_free (shows e) ≡ false) seen
  IsMost shows lanes (Some found) seen = Has lanes found × All (λ e. IsAtMost found.1 (shows e)) seen

  -- one lane more was seen
  pub most_more : {E : Type 0} (shows : E → Lane T) (lanes : tree.BTreeMap (List ℕ) (Lane T)) (found : Option (List ℕ × ℕ))
      (seen : List E) (e : E) (tenant : List ℕ) → tree.get (slice_cmp nat_cmp) lanes tenant ≡ Some (shows e)
      → IsMost shows lanes found seen → IsMost shows lanes (heavier found tenant (shows e)) (seen ++ e ∷ [])
  most_more {E} shows lanes None seen e tenant there most = by_case (can_begin all_free (shows e)) refl
    where
      by_case : (b : Bool) → can_begin all_free (shows e) ≡ b
          → IsMost shows lanes (cond (b && true) (Some (tenant, (shows e).bytes)) None) (seen ++ e ∷ [])
      by_case true begins = (
        record { lane = shows e; there = there; begins = begins; bytes = refl },
        All-append (λ (x : E). IsAtMost (shows e).bytes (shows x)) seen (e ∷ [])
            (λ k d below begun. absurd (false≢true (sym (most k d below) ∙ begun)))
            (All-one (λ (x : E). IsAtMost (shows e).bytes (shows x)) e (λ _. omega arith)),
      )
      by_case false begins =
          All-append (λ (x : E). can_begin all_free (shows x) ≡ false) seen (e ∷ []) most
          (All-one (λ (x : E). can_begin all_free (shows x) ≡ false) e begins)
  most_more {E} shows lanes (Some found) seen e tenant there most =
      by_case (can_begin all_free (shows e)) (nat_lt found.1 (shows e).bytes) refl refl
    where
      by_case : (b more : Bool) → can_begin all_free (shows e) ≡ b → nat_lt found.1 (shows e).bytes ≡ more
          → IsMost shows lanes (cond (b && more) (Some (tenant, (shows e).bytes)) (Some found)) (seen ++ e ∷ [])
      by_case true true begins more = (
        record { lane = shows e; there = there; begins = begins; bytes = refl },
        All-append (λ (x : E). IsAtMost (shows e).bytes (shows x)) seen (e ∷ [])
            (λ k d below begun. omega (arith, most.1 k d below begun, ltb-true found.1 (shows e).bytes more))
            (All-one (λ (x : E). IsAtMost (shows e).bytes (shows x)) e (λ _. omega arith)),
      )
      by_case true false begins more = (
        most.0,
        All-append (λ (x : E). IsAtMost found.1 (shows x)) seen (e ∷ []) most.1
            (All-one (λ (x : E). IsAtMost found.1 (shows x)) e (λ _. ltb-false found.1 (shows e).bytes more)),
      )
      by_case false more begins over = (
        most.0,
        All-append (λ (x : E). IsAtMost found.1 (shows x)) seen (e ∷ []) most.1
            (All-one (λ (x : E). IsAtMost found.1 (shows x)) e (λ begun. absurd (false≢true (sym begins ∙ begun)))),
      )

  -- all lanes were seen
  pub most_all : {E : Type 0} (pairs : E → List ℕ × Lane T) (lanes : tree.BTreeMap (List ℕ) (Lane T)) (found : Option (List ℕ × ℕ))
      (seen : List E) → map pairs seen ≡ lanes.entries → IsMost (λ e. (pairs e).1) lanes found seen
      → IsMost (λ (e : List ℕ × Lane T). e.1) lanes found lanes.entries
  most_all pairs lanes None seen all most =
      subst (All (λ (e : List ℕ × Lane T). can_begin all_free e.1 ≡ false)) all
      (All-map (λ (e : List ℕ × Lane T). can_begin all_free e.1 ≡ false) pairs seen most)
  most_all pairs lanes (Some found) seen all most = (
    most.0,
    subst (All (λ (e : List ℕ × Lane T). IsAtMost found.1 e.1)) all
        (All-map (λ (e : List ℕ × Lane T). IsAtMost found.1 e.1) pairs seen most.1),
  )

  -- what a look-up finds of a tenant that is ready
  pub found_ready : (lanes : tree.BTreeMap (List ℕ) (Lane T)) (t : List ℕ) (lane : Option (Lane T))
      → lookup (tree.is_at (slice_cmp nat_cmp t)) lanes.entries ≡ lane → is_ready all_free t lanes ≡ found_begins all_free lane
  unfolding is_ready waiting_of under_way_of
  found_ready lanes t lane found = ap (found_begins all_free) (sym (lookup-by_name t lanes.entries) ∙ found)

  -- where no lane can begin no tenant is ready
  pub none_ready : (lanes : tree.BTreeMap (List ℕ) (Lane T))
      → All (λ (e : List ℕ × Lane T). can_begin all_free e.1 ≡ false) lanes.entries
      → (t : List ℕ) → is_ready all_free t lanes ≡ false
  none_ready lanes none t = by_case (lookup test lanes.entries) refl
      (All-lookup (λ (lane : Lane T). can_begin all_free lane ≡ false) test lanes.entries none)
    where
      test : List ℕ → Bool
      test = tree.is_at (slice_cmp nat_cmp t)

      by_case : (lane : Option (Lane T)) → lookup test lanes.entries ≡ lane
          → IfSome lane (λ l. can_begin all_free l ≡ false) → is_ready all_free t lanes ≡ false
      by_case None found not = found_ready lanes t None found
      by_case (Some lane) found not = found_ready lanes t (Some lane) found ∙ not

module _ {T : Type 0} (weight : T → ℕ) where
  -- what waits of a tenant is what its lane says
  pub bytes_at : (lanes : tree.BTreeMap (List ℕ) (Lane T)) (t : List ℕ) (lane : Lane T)
      → lookup (tree.is_at (slice_cmp nat_cmp t)) lanes.entries ≡ Some lane → AreCounted weight lanes
      → bytes_of weight t lanes ≡ lane.bytes
  unfolding waiting_of
  bytes_at lanes t lane found counted =
      ap (λ (o : Option (Lane T)). sum_by weight (waiting_in o)) (sym (lookup-by_name t lanes.entries) ∙ found)
      ∙ sym (counted_at weight lanes t lane counted (sym found))

  -- the tenant that was found in the end
  pub is_heaviest : (lanes : tree.BTreeMap (List ℕ) (Lane T)) (found : List ℕ × ℕ) → AreCounted weight lanes
      → Has lanes found → All (λ (e : List ℕ × Lane T). IsAtMost found.1 e.1) lanes.entries
      → IsHeaviest weight found.0 lanes
  is_heaviest lanes found counted has most = record {
    waits = ready_at all_free lanes found.0 has.lane has.there has.begins;
    most = λ t ready. by_case t ready (lookup (tree.is_at (slice_cmp nat_cmp t)) lanes.entries) refl
        (All-lookup (λ (lane : Lane T). IsAtMost found.1 lane) (tree.is_at (slice_cmp nat_cmp t)) lanes.entries most);
  }
    where
      by_case : (t : List ℕ) → is_ready all_free t lanes ≡ true → (lane : Option (Lane T))
          → lookup (tree.is_at (slice_cmp nat_cmp t)) lanes.entries ≡ lane → IfSome lane (λ l. IsAtMost found.1 l)
          → bytes_of weight t lanes ≤ bytes_of weight found.0 lanes
      by_case t ready None none below = absurd (false≢true (sym (found_ready lanes t None none) ∙ ready))
      by_case t ready (Some lane) there below =
          omega (
            arith,
            below (sym (found_ready lanes t (Some lane) there) ∙ ready),
            bytes_at lanes t lane there counted,
            bytes_at lanes found.0 has.lane has.there counted,
            has.bytes,
          )

  -- the first item of a lane holds all that waits, or it doesn't
  pub holds_all : (lanes : tree.BTreeMap (List ℕ) (Lane T)) (tenant : List ℕ) (lane : Lane T) (item : T) (own all : ℕ)
      → Some lane ≡ lookup (tree.is_at (slice_cmp nat_cmp tenant)) lanes.entries → 0 < length lane.waiting.items
      → item ≡ slice_index_or lane.waiting.items 0 item → own ≡ weight item → all ≡ all_bytes weight lanes
      → (IsTrue (nat_eq own all) → HoldsAll weight tenant lanes) × (HoldsAll weight tenant lanes → IsTrue (nat_eq own all))
  unfolding waiting_of
  holds_all lanes tenant lane item own all found some is weighs sums =
      let waits : waiting_of tenant lanes ≡ lane.waiting.items = ap waiting_in (found_at lanes tenant (Some lane) found) in
      let parts = first_of lane.waiting.items item some is in (
        λ same. record {
          item = item;
          behind = parts.0;
          first = waits ∙ parts.1;
          all = sym weighs ∙ eqb-true own all same ∙ sums;
        },
        λ holds.
            let one : item ≡ holds.item = ap (λ (items : List T). slice_index_or items 0 item) (sym parts.1 ∙ sym waits ∙ holds.first) in
            eq-eqb own all (weighs ∙ ap weight one ∙ holds.all ∙ sym sums),
      )
    where
      first_of : (items : List T) (item : T) → 0 < length items → item ≡ slice_index_or items 0 item
          → (behind : List T) × (items ≡ item ∷ behind)
      first_of [] item some is = absurd (omega (arith, some))
      first_of (first ∷ items) item some is = (items, ap (λ (x : T). x ∷ items) (sym is))

  -- nothing that doesn't wait holds all
  pub none_holds : (lanes : tree.BTreeMap (List ℕ) (Lane T)) (tenant : List ℕ) (lane : Option (Lane T))
      → lane ≡ lookup (tree.is_at (slice_cmp nat_cmp tenant)) lanes.entries → length (waiting_in lane) ≤ 0
      → (IsTrue false → HoldsAll weight tenant lanes) × (HoldsAll weight tenant lanes → IsTrue false)
  unfolding waiting_of
  none_holds lanes tenant lane found none = (
    λ same. absurd (false≢true same),
    λ holds. absurd (omega (arith, none, ap length (sym (ap waiting_in (found_at lanes tenant lane found)) ∙ holds.first))),
  )
