-- What an instance has once its store was opened, and what rows that store has.
use Rattle.std.proofs.Common.{◌≡◌, ◌⊎◌, inl, inr, ℕ, zero, suc, ◌==◌, nat_lt, Bool, true, false, ◌&&◌, ◌||◌, List, [], ◌∷◌, ◌++◌, filter, Some, None, is_some, arith, ap, ap₂, refl, sym, ◌∙◌, if◌then◌else◌}
use Rattle.std.specs.List.{list_any}
use Rattle.std.proofs.lemmas.Bool.{and_right, cases_Bool, cond-false, cond-true, le-ltb, ne_eqb}
use Rattle.std.proofs.lemmas.List.Folds.{list_any-append}
use Rattle.am_cluster.specs.Accepting.{accepted}
use Rattle.am_cluster.specs.Local.{Local, blank, no_ledger}
use Rattle.am_cluster.specs.RingChanges.{opened}
use Rattle.am_current.specs.Current.{configuration_in}
use Rattle.am_item.specs.Best.{all_joined}
use Rattle.am_item.specs.Counts.{count_of}
use Rattle.am_item.specs.declared.item.Item.{Item}
use Rattle.am_labels.specs.Hashes.{place}
use Rattle.am_muting.specs.Muting.{alert_sets}
use Rattle.am_node.specs.Accepting.{accepted as accepted_in_node}
use Rattle.am_node.specs.Held.{local_of as local_in_node}
use Rattle.am_node.specs.Holding.{BeginsWith as BeginsWithInNode}
use Rattle.am_node.specs.Local.{blank as blank_in_node}
use Rattle.am_node.specs.declared.parts.Parts.{Parts}
use Rattle.am_notifier.specs.Following.{all_came, sinces_in}
use Rattle.am_notifier.proofs.ByRoutes.{sinces_planned}
use Rattle.am_quorum.specs.Dockets.{Docket, docket_of}
use Rattle.am_ring.specs.Instances.{is_among}
use Rattle.am_ring.specs.Replicas.{count_before, is_replica, position_of, replicas}
use Rattle.am_ring.proofs.Lists.{among-filter}
use Rattle.am_rows.specs.Rows.{Keeps as KeepsRows, Makes as MakesRows, no_rows, rows_of}
use Rattle.am_tenant.specs.Names.{same}
use Rattle.am_tenant.proofs.Same.{eq_from_same}
use Rattle.am_transfer.specs.Settling.{Settling}
use Rattle.am_transfer.specs.Tenants.{settling_of}
use Rattle.am_site.specs.Locals.{from_rooms, local_of}
use Rattle.am_site.specs.Opening.{AreOpened, BeginsWith, KeepsOwn, KeepsOwnAmong, MayKeepOwn, own_rows}
use Rattle.am_site.specs.declared.site.Site.{Site}
use Rattle.am_site.proofs.Carrying.{with_node}

abbrev Pairs : Type 0
Pairs = List (List ℕ × Item)

or_nothing : (b : Bool) → (b || false) ≡ b
or_nothing true = refl
or_nothing false = refl

-- ---- who is a replica

below_three : (n : ℕ) (m : Bool) → (((n == 0) && m) || (((n == 1) && m) || (((n == 2) && m) || false))) ≡ (m && nat_lt n 3)
below_three zero true = refl
below_three (suc zero) true = refl
below_three (suc (suc zero)) true = refl
below_three (suc (suc (suc n))) true =
    rw (
      ne_eqb (suc (suc (suc n))) 0 (λ e. omega arith),
      ne_eqb (suc (suc (suc n))) 1 (λ e. omega arith),
      ne_eqb (suc (suc (suc n))) 2 (λ e. omega arith),
      le-ltb (suc (suc (suc n))) 3 (omega arith),
    ) refl
below_three n false = rw (and_right (n == 0) false refl, and_right (n == 1) false refl, and_right (n == 2) false refl) refl

pub among_replicas : (t ring : List ℕ) (i : ℕ) → is_among i (replicas t ring) ≡ is_replica t ring i
unfolding replicas is_replica
among_replicas t ring i =
    list_any-append (λ j. i == j) (at 0) (at 1 ++ (at 2 ++ []))
    ∙ ap₂ (λ a b. a || b) (among 0)
    (list_any-append (λ j. i == j) (at 1) (at 2 ++ [])
    ∙ ap₂ (λ a b. a || b) (among 1) (list_any-append (λ j. i == j) (at 2) [] ∙ ap (λ a. a || false) (among 2)))
    ∙ below_three (count_before (place t) ring i) (is_among i ring)
  where
    at : ℕ → List ℕ
    at n = filter (λ j. count_before (place t) ring j == n) ring

    among : (n : ℕ) → is_among i (at n) ≡ ((count_before (place t) ring i == n) && is_among i ring)
    among n = among-filter (λ j. count_before (place t) ring j == n) i ring

pub position_tells : (t ring : List ℕ) (i : ℕ) → is_some (position_of t ring i) ≡ is_replica t ring i
unfolding position_of
position_tells t ring i = by (is_replica t ring i)
  where
    by : (b : Bool) → is_some (if b then Some (count_before (place t) ring i) else None) ≡ b
    by true = refl
    by false = refl

-- ---- the rows

module _ (ring : List ℕ) (i : ℕ) where
  -- a replica keeps all rows
  pub own_stay : (t : List ℕ) (pairs : Pairs) → is_replica t ring i ≡ true → MakesRows t (own_rows ring i t) pairs pairs
  own_stay t pairs is s = by (same s t)
    where
      by : (b : Bool) → rows_of s pairs ≡ (if b then own_rows ring i t (rows_of s pairs) else rows_of s pairs)
      by true = sym (cond-true (is_replica t ring i) (rows_of s pairs) [] is)
      by false = refl

  -- any other keeps none
  pub others_go : (t : List ℕ) (old new : Pairs) → is_replica t ring i ≡ false → MakesRows t no_rows old new → MakesRows t (own_rows ring i t) old new
  others_go t old new not makes s = makes s ∙ by (same s t)
    where
      by : (b : Bool) → (if b then no_rows (rows_of s old) else rows_of s old) ≡ (if b then own_rows ring i t (rows_of s old) else rows_of s old)
      by true = sym (cond-false (is_replica t ring i) (rows_of s old) [] not)
      by false = refl

  own_of_none : (t : List ℕ) → own_rows ring i t [] ≡ []
  own_of_none t = by (is_replica t ring i)
    where
      by : (b : Bool) → (if b then [] else []) ≡ no_rows []
      by true = refl
      by false = refl

  -- what is kept of what was kept, or of all
  own_again : (b : Bool) (t : List ℕ) (rows : List Item) → own_rows ring i t (if b then own_rows ring i t rows else rows) ≡ own_rows ring i t rows
  own_again true t rows = by (is_replica t ring i)
    where
      by : (c : Bool) → (if c then (if c then rows else []) else []) ≡ (if c then rows else [])
      by true = refl
      by false = refl
  own_again false t rows = refl

  abbrev own_among : Bool → List ℕ → List Item → List Item
  own_among b t rows = if b then own_rows ring i t rows else rows

  -- they are kept of some tenants, and all stay then
  pub some_kept : (names : List (List ℕ)) (old mid new : Pairs) → KeepsOwnAmong names ring i old mid → KeepsRows mid new → MayKeepOwn ring i old new
  some_kept names old mid new kept stays t = by (list_any (same t) names) (stays t ∙ kept t)
    where
      by : (b : Bool) → rows_of t new ≡ own_among b t (rows_of t old) → (rows_of t new ≡ rows_of t old) ⊎ (rows_of t new ≡ own_rows ring i t (rows_of t old))
      by true is = inr is
      by false is = inl is

  -- all stay, and then some are kept
  pub kept_behind : (old mid new : Pairs) → KeepsRows old mid → MayKeepOwn ring i mid new → MayKeepOwn ring i old new
  kept_behind old mid new stays may t = elim (may t) [
    | inl is ↦ inl (is ∙ stays t)
    | inr is ↦ inr (is ∙ ap (own_rows ring i t) (stays t))
  ]

  -- they are kept, and all stay then
  pub kept_ahead : (old mid new : Pairs) → KeepsOwn ring i old mid → KeepsRows mid new → KeepsOwn ring i old new
  kept_ahead old mid new kept stays t = stays t ∙ kept t

  pub all_kept : (old new : Pairs) → KeepsOwn ring i old new → MayKeepOwn ring i old new
  all_kept old new kept t = inr (kept t)

  pub none_come : (pairs : Pairs) → KeepsOwnAmong [] ring i pairs pairs
  none_come pairs t = refl

  pub one_comes : (names : List (List ℕ)) (n : List ℕ) (old mid new : Pairs) → KeepsOwnAmong names ring i old mid → MakesRows n (own_rows ring i n) mid new
      → KeepsOwnAmong (names ++ n ∷ []) ring i old new
  one_comes names n old mid new kept makes t = elim (cases_Bool (same t n)) [
    | inl is ↦
        let one : t ≡ n = eq_from_same t n is in
        makes t ∙ cond-true (same t n) (own_rows ring i n (rows_of t mid)) (rows_of t mid) is ∙ ap (λ s. own_rows ring i s (rows_of t mid)) (sym one)
        ∙ ap (own_rows ring i t) (kept t) ∙ own_again (list_any (same t) names) t (rows_of t old)
        ∙ sym (ap (λ b. own_among b t (rows_of t old)) (more t ∙ ap (λ b. list_any (same t) names || (b || false)) is ∙ last (list_any (same t) names)))
    | inr apart ↦
        makes t ∙ cond-false (same t n) (own_rows ring i n (rows_of t mid)) (rows_of t mid) apart ∙ kept t
        ∙ sym (ap (λ b. own_among b t (rows_of t old)) (more t ∙ ap (λ b. list_any (same t) names || (b || false)) apart ∙ or_nothing (list_any (same t) names)))
  ]
    where
      more : (t : List ℕ) → list_any (same t) (names ++ n ∷ []) ≡ (list_any (same t) names || (same t n || false))
      more t = list_any-append (same t) names (n ∷ [])

      last : (b : Bool) → (b || true) ≡ true
      last true = refl
      last false = refl

  -- where all tenants are named that have rows
  pub all_come : (names : List (List ℕ)) (old mid new : Pairs) → ((t : List ℕ) → list_any (same t) names ≡ false → rows_of t old ≡ []) → KeepsRows old mid
      → KeepsOwnAmong names ring i mid new → KeepsOwn ring i old new
  all_come names old mid new none stays kept t = elim (cases_Bool (list_any (same t) names)) [
    | inl named ↦
        kept t ∙ cond-true (list_any (same t) names) (own_rows ring i t (rows_of t mid)) (rows_of t mid) named ∙ ap (own_rows ring i t) (stays t)
    | inr other ↦
        kept t ∙ cond-false (list_any (same t) names) (own_rows ring i t (rows_of t mid)) (rows_of t mid) other ∙ stays t ∙ none t other
        ∙ sym (ap (own_rows ring i t) (none t other) ∙ own_of_none t)
  ]

  pub own_behind : (given old new : Pairs) → KeepsRows given old → KeepsOwn ring i old new → KeepsOwn ring i given new
  own_behind given old new stays kept t = kept t ∙ ap (own_rows ring i t) (stays t)

-- ---- what is had

-- what a node accepts that has nothing
accepted_rooms : (moment : ℕ) (rows : List Item) (d : Docket) (n : ℕ) (g : Settling)
    → from_rooms (accepted_in_node moment rows blank_in_node) d n g ≡ accepted moment rows (from_rooms blank_in_node d n g)
unfolding accepted accepted_in_node
accepted_rooms moment rows d n g =
    ap (λ sinces. let l : Local = record (from_rooms (accepted_in_node moment rows blank_in_node) d n g) { sinces = sinces } in l)
    (sinces_planned (configuration_in (all_joined [] rows)) (all_came moment (alert_sets rows) (sinces_in blank_in_node.plan)))

-- beside its node too it has nothing
nothing_beside : (t : List ℕ) (site : Site) → local_of t site ≡ blank
    → from_rooms blank_in_node (docket_of t site.operations) (count_of t site.sent) (settling_of t site.settling.progress) ≡ blank
unfolding local_of
nothing_beside t site none =
    ap (λ (l : Local). let rest : Local = record blank {
      operations = l.operations;
      settling = l.settling;
      ledger = record no_ledger { messages = l.ledger.messages; operations = l.ledger.operations };
    } in rest) none

accepted_nothing : (moment : ℕ) → accepted moment [] blank ≡ blank
unfolding accepted
accepted_nothing moment = refl

module _ (ring : List ℕ) (i moment : ℕ) (old : Site) (node : Parts) (none : (t : List ℕ) → local_of t old ≡ blank) (given found : Pairs) (own : KeepsOwn ring i given found)
    (held : (t : List ℕ) → local_in_node t node ≡ accepted_in_node moment (rows_of t found) blank_in_node) where
  accepts_own : (t : List ℕ) → local_of t (with_node old node) ≡ accepted moment (own_rows ring i t (rows_of t given)) blank
  unfolding local_of
  accepts_own t =
      let d = docket_of t old.operations in
      let n = count_of t old.sent in
      let g = settling_of t old.settling.progress in
      ap (λ here. from_rooms here d n g) (held t) ∙ accepted_rooms moment (rows_of t found) d n g ∙ ap (accepted moment (rows_of t found)) (nothing_beside t old (none t))
      ∙ ap (λ rows. accepted moment rows blank) (own t)

  -- it has what it would have by all rows where it is a replica
  opens_at : (b : Bool) (rows : List Item) → accepted moment (if b then rows else []) blank ≡ (if b then accepted moment rows blank else blank)
  opens_at true rows = refl
  opens_at false rows = accepted_nothing moment

  pub opens : AreOpened ring i moment given (with_node old node)
  unfolding opened
  opens here instance_is moment_is three_is =
      let t = here.tenant in
      let rows = rows_of t given in
      accepts_own t ∙ opens_at (is_replica t ring i) rows
      ∙ ap (λ b. if b then accepted moment rows blank else blank) (sym (ap₂ (λ j others. is_among j others) instance_is three_is ∙ among_replicas t ring i))
      ∙ ap (λ m. if is_among here.instance here.three then accepted m rows blank else blank) (sym moment_is)

-- its node holds no alert, and nothing of any tenant but these
pub begins : (old : Site) (names : List (List ℕ)) (node : Parts) → ((t : List ℕ) → local_of t old ≡ blank) → BeginsWithInNode names node
    → BeginsWith names (with_node old node)
unfolding local_of
begins old names node none held = record {
  sinces = λ t. (held.alertless t).sinces;
  positions = λ t. (held.alertless t).position;
  others = λ t apart.
      ap (λ here. from_rooms here (docket_of t old.operations) (count_of t old.sent) (settling_of t old.settling.progress)) (held.others t apart)
      ∙ nothing_beside t old (none t);
}
