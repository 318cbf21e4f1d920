-- Rows: when two are one, and what the row of an item tells.
use Rattle.std.proofs.Common.{◌≡◌, ℕ, ◌<◌, ◌≤◌, Bool, true, false, nat_le, length, List, [], ◌∷◌, arith, Option, Some, None, refl, sym, ap, ◌∙◌}
use Rattle.std.specs.BTreeSet.{BTreeSet}
use Rattle.std.specs.Cmp.{Equal-is, nat_cmp_is}
use Rattle.std.specs.Cmp.Lexicographic.{slice_cmp}
use Rattle.std.specs.List.{list_any, slice_get}
use Rattle.std.specs.Option.{option_map_or}
use Rattle.std.specs.Ordering.{is_eq, is_gt, nat_cmp, ordering_then}
use Rattle.std.specs.declared.cmp.Ordering.TheVariants.{Equal, Greater}
use Rattle.std.proofs.lemmas.Bool.{false≢true, leb-false, leb-true}
use Rattle.std.proofs.lemmas.Cmp.{tied_itself}
use Rattle.std.proofs.lemmas.Map.Lookups.{exact_bytes, exact_unsigned}
use Rattle.am_tenant.specs.Names.{same}
use Rattle.am_tenant.proofs.Same.{same-refl}
use Rattle.am_item.specs.Key.{key_cmp}
use Rattle.am_item.specs.Retirement.{retires_at, standing_of}
use Rattle.am_item.specs.Stamp.{stamp_cmp}
use Rattle.am_item.specs.declared.held.Standing.{Standing}
use Rattle.am_item.specs.declared.item.Item.{Item}
use Rattle.am_item.specs.declared.key.ThingKey.{ThingKey}
use Rattle.am_item.specs.declared.stamp.Stamp.{Stamp}
use Rattle.am_item.proofs.Greatest.{by_cases, some_same}
use Rattle.am_item.proofs.Keys.{key_itself}
use Rattle.am_item.proofs.Order.{keys_exact, stamps_exact, then_equal}
use Rattle.am_book.specs.Row.{has_row, is_row_of, row_cmp, rows_total, same_row}
use Rattle.am_book.specs.declared.row.Row.{Row}

-- rows of equal parts are equal
pub same_parts : (a b : Row) → a.retires_at ≡ b.retires_at → a.stamp ≡ b.stamp → a.tenant ≡ b.tenant → a.key ≡ b.key → a ≡ b
same_parts a b at stamp tenant key =
    ap (λ (n : ℕ). let r : Row = record { retires_at = n; stamp = a.stamp; tenant = a.tenant; key = a.key } in r) at
    ∙ ap (λ (s : Stamp). let r : Row = record { retires_at = b.retires_at; stamp = s; tenant = a.tenant; key = a.key } in r) stamp
    ∙ ap (λ (t : List ℕ). let r : Row = record { retires_at = b.retires_at; stamp = b.stamp; tenant = t; key = a.key } in r) tenant
    ∙ ap (λ (k : ThingKey). let r : Row = record { retires_at = b.retires_at; stamp = b.stamp; tenant = b.tenant; key = k } in r) key

-- rows that compare equal are equal
rows_exact : (a b : Row) → row_cmp a b ≡ Equal → a ≡ b
unfolding row_cmp
rows_exact a b h =
    let both = then_equal (ordering_then (nat_cmp a.retires_at b.retires_at) (stamp_cmp a.stamp b.stamp)) (ordering_then (slice_cmp nat_cmp a.tenant b.tenant) (key_cmp a.key b.key)) h in
    let times = then_equal (nat_cmp a.retires_at b.retires_at) (stamp_cmp a.stamp b.stamp) both.0 in
    let names = then_equal (slice_cmp nat_cmp a.tenant b.tenant) (key_cmp a.key b.key) both.1 in
    same_parts a b (exact_unsigned a.retires_at b.retires_at times.0) (stamps_exact a.stamp b.stamp times.1) (exact_bytes a.tenant b.tenant names.0) (keys_exact a.key b.key names.1)

-- the test of rows tells which are equal
pub row_same : (a b : Row) → same_row a b ≡ true → a ≡ b
row_same a b h = rows_exact a b ((Equal-is (row_cmp a b)).0 h)

-- a row is the same as itself
pub row_itself : (a b : Row) → a ≡ b → same_row a b ≡ true
row_itself a b h = ap (same_row a) (sym h) ∙ ap is_eq (tied_itself rows_total a)

-- rows of different tenants, and of different keys, are different
pub apart_tenants : (a b : Row) → same b.tenant a.tenant ≡ false → same_row a b ≡ false
apart_tenants a b h = by_cases (same_row a b) (λ e. absurd (false≢true (sym h ∙ ap (λ (r : Row). same r.tenant a.tenant) (sym (row_same a b e)) ∙ same-refl a.tenant))) (λ e. e)

pub apart_keys : (a b : Row) → is_eq (key_cmp b.key a.key) ≡ false → same_row a b ≡ false
apart_keys a b h = by_cases (same_row a b) (λ e. absurd (false≢true (sym h ∙ ap (λ (r : Row). is_eq (key_cmp r.key a.key)) (sym (row_same a b e)) ∙ key_itself a.key))) (λ e. e)

-- ---- the row of what stands at a key

module _ (t : List ℕ) (k : ThingKey) (row : Row) where
  -- the row that retires then
  made : Stamp → ℕ → Row
  made stamp at = record { retires_at = at; stamp = stamp; tenant = t; key = k }

  -- what such a row is, moment by moment
  pub record IsMade (stamp : Stamp) (o : Option ℕ) : Type 0 where
    pub at : o ≡ Some row.retires_at
    pub stamp_is : row.stamp ≡ stamp
    pub tenant_is : row.tenant ≡ t
    pub key_is : row.key ≡ k

  made_of : (stamp : Stamp) (o : Option ℕ) → option_map_or (λ at. same_row (made stamp at) row) o false ≡ true → IsMade stamp o
  unfolding made
  made_of stamp None h = absurd (false≢true h)
  made_of stamp (Some at) h =
      let same = row_same (made stamp at) row h in
      record {
        at = ap (λ (r : Row). Some r.retires_at) same;
        stamp_is = sym (ap (λ (r : Row). r.stamp) same);
        tenant_is = sym (ap (λ (r : Row). r.tenant) same);
        key_is = sym (ap (λ (r : Row). r.key) same);
      }

  pub is_made : (s : Standing) → is_row_of t k s row ≡ true → IsMade s.stamp s.retires_at
  unfolding made
  is_made s h = made_of s.stamp s.retires_at h

  -- a row of another tenant, or of another key, is not it
  pub other_tenant : (s : Standing) → same row.tenant t ≡ false → is_row_of t k s row ≡ false
  other_tenant s h = by_cases (is_row_of t k s row) (λ e. absurd (false≢true (sym h ∙ ap (λ n. same n t) (is_made s e).tenant_is ∙ same-refl t))) (λ e. e)

  pub other_key : (s : Standing) → is_eq (key_cmp row.key k) ≡ false → is_row_of t k s row ≡ false
  other_key s h = by_cases (is_row_of t k s row) (λ e. absurd (false≢true (sym h ∙ ap (λ n. is_eq (key_cmp n k)) (is_made s e).key_is ∙ key_itself k))) (λ e. e)

-- the row of what stands is the one that is made of it
pub row_of_standing : (t : List ℕ) (k : ThingKey) (s : Standing) (at : ℕ) → s.retires_at ≡ Some at → (row : Row) → is_row_of t k s row ≡ true
    → row ≡ (let made : Row = record { retires_at = at; stamp = s.stamp; tenant = t; key = k } in made)
row_of_standing t k s at retires row h =
    let is = is_made t k row s h in
    same_parts row (record { retires_at = at; stamp = s.stamp; tenant = t; key = k }) (some_same row.retires_at at (sym is.at ∙ retires)) is.stamp_is is.tenant_is is.key_is

-- ---- the row of what a look-up finds

-- the row is of the item that was found
abbrev pub told_by : Row → Option Item → Bool
told_by row o = option_map_or (λ item. is_row_of row.tenant row.key (standing_of item) row) o false

-- what it tells of that item
pub record IsOf (row : Row) (o : Option Item) : Type 0 where
  pub item : Item
  pub found : o ≡ Some item
  pub at : retires_at item ≡ Some row.retires_at
  pub stamp_is : row.stamp ≡ item.stamp

pub told_item : (row : Row) (o : Option Item) → told_by row o ≡ true → IsOf row o
told_item row None h = absurd (false≢true h)
told_item row (Some x) h =
    let is = is_made row.tenant row.key row (standing_of x) h in
    record { item = x; found = refl; at = is.at; stamp_is = is.stamp_is }

-- each item that retires is told of by its row
pub own_row : (t : List ℕ) (k : ThingKey) (x : Item) (at : ℕ) → retires_at x ≡ Some at → (let row : Row = record { retires_at = at; stamp = x.stamp; tenant = t; key = k } in told_by row (Some x)) ≡ true
own_row t k x at h =
    let row : Row = record { retires_at = at; stamp = x.stamp; tenant = t; key = k } in
    ap (λ o. option_map_or (λ n. same_row (let r : Row = record { retires_at = n; stamp = x.stamp; tenant = t; key = k } in r) row) o false) h
    ∙ row_itself row row refl

-- ---- the first row

-- no set without rows has one
pub no_row : (rows : BTreeSet Row) → (0 < length rows.keys → ⊥) → (row : Row) → has_row rows row ≡ true → ⊥
no_row rows none row h = among rows.keys none h
  where
    among : (ks : List Row) → (0 < length ks → ⊥) → list_any (λ k. same_row row k) ks ≡ true → ⊥
    among [] none h = false≢true h
    among (k ∷ ks) none h = none (omega arith)

-- rows that are no lower than one that isn't due aren't due
pub not_due : (first row : Row) (moment : ℕ) → is_gt (row_cmp first row) ≡ false → nat_le first.retires_at moment ≡ false → nat_le row.retires_at moment ≡ false
unfolding row_cmp
not_due first row moment h late =
    by_cases (nat_le row.retires_at moment)
    (λ due.
    let below : row.retires_at < first.retires_at = earlier row.retires_at first.retires_at moment (leb-true row.retires_at moment due) (leb-false first.retires_at moment late) in
    let greater : nat_cmp first.retires_at row.retires_at ≡ Greater = sym (nat_cmp_is first.retires_at row.retires_at Greater below) in
    absurd (false≢true (sym h
    ∙ ap (λ o. is_gt (ordering_then (ordering_then o (stamp_cmp first.stamp row.stamp)) (ordering_then (slice_cmp nat_cmp first.tenant row.tenant) (key_cmp first.key row.key)))) greater)))
    (λ e. e)
  where
    earlier : (a b m : ℕ) → a ≤ m → m < b → a < b
    earlier a b m h k = omega arith

-- the first of a list is the one that is taken from its front
pub first_taken : (first taken : Row) (ks rest : List Row) → slice_get ks 0 ≡ Some first → ks ≡ taken ∷ rest → first ≡ taken
first_taken first taken ks rest h is = some_same first taken (sym h ∙ ap (λ l. slice_get l 0) is)
