-- What an instance has once it holds what its store kept.
use Rattle.std.proofs.Common.{◌≡◌, inl, inr, ℕ, ◌<◌, zero, suc, Bool, true, false, ◌||◌, List, [], ◌∷◌, ◌++◌, length}
use Rattle.std.proofs.Common.{get_or, take, filter, map, refl, sym, ap, subst, arith, ◌∙◌, if◌then◌else◌}
use Rattle.std.specs.Cmp.Lexicographic.{slice_cmp}
use Rattle.std.specs.List.{list_any}
use Rattle.std.specs.List.Sorted.{IsStrictlySortedBy}
use Rattle.std.specs.Ordering.{is_eq, nat_cmp}
use Rattle.std.specs.declared.cmp.Ordering.TheVariants.{Less}
use Rattle.std.proofs.lemmas.Bool.{cases_Bool, cond-false, cond-true, false≢true, or_from}
use Rattle.std.proofs.lemmas.List.Folds.{list_any-append}
use Rattle.std.proofs.lemmas.Map.Keys.{Less-from_sorted}
use Rattle.am_tenant.specs.Names.{same}
use Rattle.am_tenant.proofs.Same.{eq_from_same, is_eq-name_cmp, same-refl}
use Rattle.am_item.specs.Best.{all_joined}
use Rattle.am_item.specs.declared.item.Item.{Item}
use Rattle.am_alert.specs.Held.{alerts_among}
use Rattle.am_item.specs.declared.fault.Fault.{Fault}
use Rattle.am_item.specs.declared.fault.Fault.TheVariants.{OutOfMemory, CountsExhausted, PatternNotBuilt, StoreRefused}
use Rattle.am_item.specs.declared.item.Alert.{Alert}
use Rattle.am_item.specs.declared.item.Thing.{Thing}
use Rattle.am_item.specs.declared.item.Thing.TheVariants as thing
use Rattle.am_item.specs.declared.stamp.Stamp.{Stamp}
use Rattle.am_item.specs.declared.stamp.Stamped.{Stamped}
use Rattle.am_rows.specs.Rows.{Keeps, is_kept, is_stored, rows_of, stored_in}
use Rattle.am_current.specs.Current.{configuration_in}
use Rattle.am_muting.specs.Muting.{alert_sets}
use Rattle.am_notifier.specs.Following.{all_came, sinces_in}
use Rattle.am_notifier.proofs.ByRoutes.{sinces_planned}
use Rattle.am_notifier.specs.Planned.{default_paces, planned_alerts}
use Rattle.am_node.specs.Accepting.{StopsAccepting, accepted}
use Rattle.am_node.specs.Held.{Makes, local_of}
use Rattle.am_node.specs.Local.{Local, blank}
use Rattle.am_node.specs.Plans.{HoldsNoAlert}
use Rattle.am_node.specs.Storing.{AreStillStored}
use Rattle.am_node.specs.declared.parts.Parts.{Parts}

abbrev Pairs : Type 0
Pairs = List (List ℕ × Item)

pub accepted_nothing : (moment : ℕ) → accepted moment [] blank ≡ blank
unfolding accepted default_paces planned_alerts configuration_in
accepted_nothing moment = refl

-- ---- names in order are apart

later_apart : (x y : List ℕ) → slice_cmp nat_cmp y x ≡ Less → same x y ≡ false
later_apart x y below = elim (cases_Bool (same x y)) [
  | inl is ↦
      let one : same y x ≡ false = sym (is_eq-name_cmp y x) ∙ ap is_eq below in
      let two : same y x ≡ true = ap (λ z. same y z) (eq_from_same x y is) ∙ same-refl y in
      absurd (false≢true (sym one ∙ two))
  | inr apart ↦ apart
]

none_among : (x : List ℕ) (xs : List (List ℕ)) (i : ℕ) → ((j : ℕ) → j < i → j < length xs → same x (get_or xs j x) ≡ false) → list_any (same x) (take i xs) ≡ false
none_among x [] zero h = refl
none_among x [] (suc i) h = refl
none_among x (y ∷ ys) zero h = refl
none_among x (y ∷ ys) (suc i) h = or_from (same x y) (list_any (same x) (take i ys)) (h 0 (omega arith) (omega arith)) (none_among x ys i (λ j low within. h (suc j) (omega arith) (omega arith)))

pub fresh : (x : List ℕ) (xs : List (List ℕ)) (i : ℕ) → IsStrictlySortedBy (slice_cmp nat_cmp) xs → i < length xs → x ≡ get_or xs i x → list_any (same x) (take i xs) ≡ false
fresh x xs i sorted within is = none_among x xs i (λ j low _. later_apart x (get_or xs j x) (ap (slice_cmp nat_cmp (get_or xs j x)) is ∙ Less-from_sorted (slice_cmp nat_cmp) xs j i x sorted low within))

-- ---- one more tenant

-- what is held of a tenant: its rows, where it was come to
abbrev pub begun : Bool → ℕ → List Item → Local
begun b moment rows = if b then accepted moment rows blank else blank

pub begun_more : (n : List ℕ) (come : List (List ℕ)) (moment : ℕ) (rows : List Item) (pairs : Pairs) (old new : Parts)
    → ((t : List ℕ) → local_of t old ≡ begun (list_any (same t) come) moment (rows_of t pairs)) → list_any (same n) come ≡ false → rows ≡ rows_of n pairs
    → Makes n (accepted moment rows) old new → (t : List ℕ) → local_of t new ≡ begun (list_any (same t) (come ++ n ∷ [])) moment (rows_of t pairs)
begun_more n come moment rows pairs old new held fresh read makes t = elim (cases_Bool (same t n)) [
  | inl is ↦
      let one : t ≡ n = eq_from_same t n is in
      let was : local_of t old ≡ blank = held t ∙ ap (λ b. begun b moment (rows_of t pairs)) (ap (λ s. list_any (same s) come) one ∙ fresh) in
      makes t ∙ cond-true (same t n) (accepted moment rows (local_of t old)) (local_of t old) is ∙ ap (accepted moment rows) was ∙ ap (λ xs. accepted moment xs blank) (read ∙ ap (λ s. rows_of s pairs) (sym one))
      ∙ sym (ap (λ b. begun b moment (rows_of t pairs)) (list_any-append (same t) come (n ∷ []) ∙ ap (λ b. list_any (same t) come || (b || false)) is ∙ last (list_any (same t) come)))
  | inr apart ↦
      makes t ∙ cond-false (same t n) (accepted moment rows (local_of t old)) (local_of t old) apart ∙ held t
      ∙ sym (ap (λ b. begun b moment (rows_of t pairs)) (list_any-append (same t) come (n ∷ []) ∙ ap (λ b. list_any (same t) come || (b || false)) apart ∙ same_as (list_any (same t) come)))
]
  where
    last : (b : Bool) → (b || true) ≡ true
    last true = refl
    last false = refl

    same_as : (b : Bool) → (b || false) ≡ b
    same_as true = refl
    same_as false = refl

-- what is held of all, where no other has rows
pub begun_all : (names : List (List ℕ)) (moment : ℕ) (pairs : Pairs) (new : Parts) → ((t : List ℕ) → list_any (same t) names ≡ false → rows_of t pairs ≡ [])
    → ((t : List ℕ) → local_of t new ≡ begun (list_any (same t) names) moment (rows_of t pairs)) → (t : List ℕ) → local_of t new ≡ accepted moment (rows_of t pairs) blank
begun_all names moment pairs new others held t = elim (cases_Bool (list_any (same t) names)) [
  | inl named ↦ held t ∙ ap (λ b. begun b moment (rows_of t pairs)) named
  | inr not_named ↦
      held t ∙ ap (λ b. begun b moment (rows_of t pairs)) not_named
      ∙ sym (ap (λ xs. accepted moment xs blank) (others t not_named) ∙ accepted_nothing moment)
]

-- who is not come to has nothing yet
pub still_ahead : (n : List ℕ) (come : List (List ℕ)) (t : List ℕ) (change : Local → Local) (old new : Parts)
    → ((s : List ℕ) → list_any (same s) come ≡ false → local_of s old ≡ blank) → Makes n change old new
    → list_any (same t) (come ++ n ∷ []) ≡ false → local_of t new ≡ blank
still_ahead n come t change old new ahead makes none =
    let parts = or_parts (list_any (same t) come) (same t n || false) (sym (list_any-append (same t) come (n ∷ [])) ∙ none) in
    let apart = or_parts (same t n) false parts.1 in
    makes t ∙ cond-false (same t n) (change (local_of t old)) (local_of t old) apart.0 ∙ ahead t parts.0
  where
    or_parts : (a b : Bool) → (a || b) ≡ false → (a ≡ false) × (b ≡ false)
    or_parts true b is = absurd (false≢true (sym is))
    or_parts false b is = (refl, is)

-- what is held by these rows is held by those that they were before
pub held_before : (moment : ℕ) (given found : Pairs) (new : Parts) → Keeps given found
    → ((t : List ℕ) → local_of t new ≡ accepted moment (rows_of t found) blank) → (t : List ℕ) → local_of t new ≡ accepted moment (rows_of t given) blank
held_before moment given found new stays held t = held t ∙ ap (λ (xs : List Item). accepted moment xs blank) (stays t)

pub stores_before : (new : Parts) (given found after : Pairs) → Keeps given found → AreStillStored new found after → AreStillStored new given after
stores_before new given found after stays still = record { keeps = λ t. still.keeps t ∙ stays t; stores = still.stores }

-- ---- there is nothing to plan

-- items that are stored are no alerts
passed : (stamp : Stamp) (t : Thing) (xs : List Item) → alerts_among xs ≡ [] → alerts_among (if is_kept t then (record { stamp = stamp; thing = t }) ∷ xs else xs) ≡ []
passed stamp (thing.Configuration text) xs none = none
passed stamp (thing.Silence silence) xs none = none
passed stamp (thing.Alert alert) xs none = none
passed stamp (thing.SentEntry entry) xs none = none

no_alerts : (xs : List Item) → alerts_among (stored_in xs) ≡ []
unfolding stored_in
no_alerts [] = refl
no_alerts (x ∷ xs) = passed x.stamp x.thing (filter is_stored xs) (no_alerts xs)

pub blank_alertless : HoldsNoAlert blank
blank_alertless = record { sinces = refl; position = refl }

-- and bring none
pub accepted_alertless : (moment : ℕ) (rows : List Item) → stored_in rows ≡ rows → (local : Local) → HoldsNoAlert local → HoldsNoAlert (accepted moment rows local)
unfolding accepted
accepted_alertless moment rows stored local none =
    let alerts : alerts_among rows ≡ [] = ap alerts_among (sym stored) ∙ no_alerts rows in
    record {
      sinces = sinces_planned (configuration_in (all_joined local.held rows)) (all_came moment (alert_sets rows) (sinces_in local.plan))
          ∙ ap (λ (xs : List (Stamped Alert)). all_came moment (map (λ (alert : Stamped Alert). alert.value.labels) xs) (sinces_in local.plan)) alerts
          ∙ none.sinces;
      position = none.position;
    }

none_any : {A B : Type 0} (p : B → Bool) (f : A → B) (xs : List A) → xs ≡ [] → list_any p (map f xs) ≡ true → ⊥
none_any p f [] is some = false≢true some
none_any p f (x ∷ xs) is some = absurd cc

-- where nothing is had, what is stored stops for memory alone
pub only_memory : (refused : List (List ℕ)) (rows : List Item) (local : Local) (fault : Fault) → local ≡ blank → stored_in rows ≡ rows
    → StopsAccepting refused rows local fault → fault ≡ OutOfMemory
only_memory refused rows local OutOfMemory is stored stops = refl
only_memory refused rows local CountsExhausted is stored stops = absurd stops
only_memory refused rows local StoreRefused is stored stops = absurd stops
only_memory refused rows local PatternNotBuilt is stored (inl alert, unanswered) =
    absurd (none_any _ _ (alerts_among rows) (ap alerts_among (sym stored) ∙ no_alerts rows) alert)
only_memory refused rows local PatternNotBuilt is stored (inr (new, some), unanswered) =
    absurd (let none : 0 < length blank.plan.grouped.alerts = subst (λ (l : Local). 0 < length l.plan.grouped.alerts) is some in omega (arith, none))
