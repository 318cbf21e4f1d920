-- The rows tell what is held: after an item was put, and after one was dropped.
use Rattle.std.proofs.Common.{◌≡◌, ℕ, Bool, true, false, cond, not, List, Option, Some, None, nat_le, refl, sym, ap, ◌∙◌}
use Rattle.std.specs.List.{filter}
use Rattle.std.specs.Option.{option_map_or}
use Rattle.std.specs.Ordering.{is_eq, is_gt}
use Rattle.std.proofs.lemmas.Bool.{cond-false, cond-true, false≢true, not_from_false}
use Rattle.am_tenant.specs.Names.{same}
use Rattle.am_tenant.proofs.Same.{eq_from_same}
use Rattle.am_item.specs.declared.item.Item.{Item}
use Rattle.am_item.specs.declared.key.ThingKey.{ThingKey}
use Rattle.am_item.specs.declared.stamp.Stamp.{Stamp}
use Rattle.am_item.specs.Best.{IsRising, item_at, joined}
use Rattle.am_item.specs.Key.{exceeds, has_key, key_cmp, key_of}
use Rattle.am_item.specs.Retirement.{is_retired, retires_at, standing_of}
use Rattle.am_item.specs.Stamp.{stamp_cmp}
use Rattle.am_item.proofs.Greatest.{by_cases, exceeds_itself, later, some_same}
use Rattle.am_item.proofs.Joined.{at-joined}
use Rattle.am_item.proofs.Keys.{key_same}
use Rattle.am_item.proofs.Removed.{lacks_key}
use Rattle.am_book.specs.Row.{is_row_of, same_row, tells}
use Rattle.am_book.specs.declared.row.Row.{Row}
use Rattle.am_book.proofs.Dropping.{at-lacking, filter_found}
use Rattle.am_book.proofs.RowLemmas.{apart_keys, apart_tenants, is_made, other_key, other_tenant, own_row, row_itself, same_parts, told_by, told_item}

-- ---- an item was put

module _ (t : List ℕ) (k : ThingKey) (item : Item) (old : List Item) (up : IsRising old) (named : key_of item ≡ k) where
  -- the row is that of the item
  new_row : Row → Bool
  new_row row = is_row_of t k (standing_of item) row

  -- what a row tells, where the item takes its key's place
  tells_joined : (row : Row) → same row.tenant t ≡ true → later (item_at k old) (Some item) ≡ Some item
      → tells row (joined old item) ≡ cond (has_key row.key item) (new_row row) (tells row old)
  unfolding tells new_row
  tells_joined row h latest =
      ap (told_by row) (at-joined row.key old item up)
      ∙ by_cases (has_key row.key item)
      (λ e.
      let here : row.key ≡ k = key_same row.key (key_of item) e ∙ named in
      ap (told_by row) (cond-true _ (later (item_at row.key old) (Some item)) (item_at row.key old) e ∙ ap (λ q. later (item_at q old) (Some item)) here ∙ latest)
      ∙ ap (λ n. is_row_of n row.key (standing_of item) row) (eq_from_same row.tenant t h)
      ∙ ap (λ q. is_row_of t q (standing_of item) row) here
      ∙ sym (cond-true _ (is_row_of t k (standing_of item) row) (told_by row (item_at row.key old)) e))
      (λ e.
      ap (told_by row) (cond-false _ (later (item_at row.key old) (Some item)) (item_at row.key old) e)
      ∙ sym (cond-false _ (is_row_of t k (standing_of item) row) (told_by row (item_at row.key old)) e))

  -- another key than the item's is another than k
  other : (row : Row) → has_key row.key item ≡ false → is_eq (key_cmp row.key k) ≡ false
  other row e = ap (λ q. is_eq (key_cmp row.key q)) (sym named) ∙ e

  either : (b : Bool) → cond b true false ≡ b
  either true = refl
  either false = refl

  module _ (has0 has1 : Row → Bool) (told : (row : Row) → same row.tenant t ≡ true → has0 row ≡ tells row old) where
    -- an item whose key had none
    pub told_added : item_at k old ≡ None → ((row : Row) → has1 row ≡ cond (is_row_of t k (standing_of item) row) true (has0 row))
        → (row : Row) → has1 row ≡ cond (same row.tenant t) (tells row (joined old item)) (has0 row)
    unfolding tells new_row
    told_added none rows row =
        rows row
        ∙ by_cases (same row.tenant t)
        (λ h.
        by_cases (has_key row.key item)
        (λ e.
        let here : row.key ≡ k = key_same row.key (key_of item) e ∙ named in
        let untold : has0 row ≡ false = told row h ∙ ap (told_by row) (ap (λ q. item_at q old) here ∙ none) in
        ap (cond (is_row_of t k (standing_of item) row) true) untold ∙ either (is_row_of t k (standing_of item) row)
        ∙ sym (cond-true _ (is_row_of t k (standing_of item) row) (tells row old) e))
        (λ e.
        cond-false _ true (has0 row) (other_key t k row (standing_of item) (other row e)) ∙ told row h
        ∙ sym (cond-false _ (is_row_of t k (standing_of item) row) (tells row old) e))
        ∙ sym (tells_joined row h (ap (λ o. later o (Some item)) none))
        ∙ sym (cond-true _ (tells row (joined old item)) (has0 row) h))
        (λ h. cond-false _ true (has0 row) (other_tenant t k row (standing_of item) h) ∙ sym (cond-false _ (tells row (joined old item)) (has0 row) h))

    -- an item in the place of another
    pub told_replaced : (o : Item) → item_at k old ≡ Some o → exceeds item o ≡ true
        → ((row : Row) → has1 row ≡ cond (is_row_of t k (standing_of o) row) false (cond (is_row_of t k (standing_of item) row) true (has0 row)))
        → (row : Row) → has1 row ≡ cond (same row.tenant t) (tells row (joined old item)) (has0 row)
    unfolding tells new_row
    told_replaced o there greater rows row =
        let is_old = is_row_of t k (standing_of o) row in
        let is_new = is_row_of t k (standing_of item) row in
        rows row
        ∙ by_cases (same row.tenant t)
        (λ h.
        by_cases (has_key row.key item)
        (λ e.
        let here : row.key ≡ k = key_same row.key (key_of item) e ∙ named in
        let untold : has0 row ≡ is_old =
        told row h ∙ ap (told_by row) (ap (λ q. item_at q old) here ∙ there)
        ∙ ap (λ n. is_row_of n row.key (standing_of o) row) (eq_from_same row.tenant t h)
        ∙ ap (λ q. is_row_of t q (standing_of o) row) here in
        ap (λ b. cond is_old false (cond is_new true b)) untold
        ∙ by_cases is_old
        (λ g.
        cond-true _ false (cond is_new true is_old) g
        ∙ by_cases is_new
        (λ n.
        let stamps : item.stamp ≡ o.stamp = sym (is_made t k row (standing_of item) n).stamp_is ∙ (is_made t k row (standing_of o) g).stamp_is in
        absurd (false≢true (sym (exceeds_itself o) ∙ ap (λ (s : Stamp). is_gt (stamp_cmp s o.stamp)) (sym stamps) ∙ greater)))
        (λ n. sym n))
        (λ g. cond-false _ false (cond is_new true is_old) g ∙ ap (cond is_new true) g ∙ either is_new)
        ∙ sym (cond-true _ is_new (tells row old) e))
        (λ e.
        cond-false _ false (cond is_new true (has0 row)) (other_key t k row (standing_of o) (other row e))
        ∙ cond-false _ true (has0 row) (other_key t k row (standing_of item) (other row e)) ∙ told row h
        ∙ sym (cond-false _ is_new (tells row old) e))
        ∙ sym (tells_joined row h (ap (λ p. later p (Some item)) there ∙ cond-true _ (Some item) (Some o) greater))
        ∙ sym (cond-true _ (tells row (joined old item)) (has0 row) h))
        (λ h.
        cond-false _ false (cond is_new true (has0 row)) (other_tenant t k row (standing_of o) h)
        ∙ cond-false _ true (has0 row) (other_tenant t k row (standing_of item) h)
        ∙ sym (cond-false _ (tells row (joined old item)) (has0 row) h))

-- nothing was put: the rows that were there tell what was there
pub told_still : (t : List ℕ) (old new : List Item) (has0 has1 : Row → Bool) → ((row : Row) → same row.tenant t ≡ true → has0 row ≡ tells row old) → new ≡ old → ((row : Row) → has1 row ≡ has0 row)
    → (row : Row) → has1 row ≡ cond (same row.tenant t) (tells row new) (has0 row)
told_still t old new has0 has1 told still rows row =
    rows row
    ∙ by_cases (same row.tenant t)
    (λ h. told row h ∙ sym (cond-true _ (tells row old) (has0 row) h))
    (λ h. sym (cond-false _ (tells row old) (has0 row) h))
    ∙ ap (λ xs. cond (same row.tenant t) (tells row xs) (has0 row)) (sym still)

-- ---- an item was dropped

-- the items that are not retired at the moment
abbrev pub stays : ℕ → Item → Bool
stays moment item = not (is_retired moment item)

module _ (held0 : List ℕ → List Item) (has0 : Row → Bool) (told : (row : Row) → has0 row ≡ tells row (held0 row.tenant)) where
  -- where no row is due, nothing is retired
  pub none_retired : (moment : ℕ) → ((row : Row) → has0 row ≡ true → nat_le row.retires_at moment ≡ false) → (t : List ℕ) → IsRising (held0 t) → filter (stays moment) (held0 t) ≡ held0 t
  unfolding tells
  none_retired moment later t up =
      filter_found (stays moment) (held0 t) up (λ k x at. not_from_false (is_retired moment x) (never (retires_at x) (λ n h.
      let row : Row = record { retires_at = n; stamp = x.stamp; tenant = t; key = k } in
      later row (told row ∙ ap (told_by row) at ∙ own_row t k x n h))))
    where
      never : (o : Option ℕ) → ((n : ℕ) → o ≡ Some n → nat_le n moment ≡ false) → option_map_or (λ n. nat_le n moment) o false ≡ false
      never None h = refl
      never (Some n) h = h n refl

  module _ (first : Row) (there : has0 first ≡ true) (held1 : List ℕ → List Item) (has1 : Row → Bool)
      (rows : (row : Row) → has1 row ≡ cond (same_row first row) false (has0 row))
      (lists : (t : List ℕ) → held1 t ≡ cond (same t first.tenant) (filter (lacks_key first.key) (held0 t)) (held0 t)) where
    -- a row that tells of the same item is the first
    only_first : (row : Row) → row.tenant ≡ first.tenant → row.key ≡ first.key → has0 row ≡ true → row ≡ first
    unfolding tells
    only_first row tenant key h =
        let of_row = told_item row (item_at row.key (held0 row.tenant)) (sym (told row) ∙ h) in
        let of_first = told_item first (item_at first.key (held0 first.tenant)) (sym (told first) ∙ there) in
        let one : of_row.item ≡ of_first.item = some_same of_row.item of_first.item (sym of_row.found ∙ ap (λ n. item_at row.key (held0 n)) tenant ∙ ap (λ q. item_at q (held0 first.tenant)) key ∙ of_first.found) in
        same_parts row first (some_same row.retires_at first.retires_at (sym of_row.at ∙ ap retires_at one ∙ of_first.at))
        (of_row.stamp_is ∙ ap (λ (x : Item). x.stamp) one ∙ sym of_first.stamp_is) tenant key

    -- the rows that are left tell what is left
    pub told_dropped : (row : Row) → has1 row ≡ tells row (held1 row.tenant)
    unfolding tells
    told_dropped row =
        let xs = held0 row.tenant in
        rows row
        ∙ by_cases (same row.tenant first.tenant)
        (λ h.
        by_cases (is_eq (key_cmp row.key first.key))
        (λ e.
        by_cases (same_row first row) (λ s. cond-true _ false (has0 row) s)
        (λ s.
        cond-false _ false (has0 row) s
        ∙ by_cases (has0 row)
        (λ g. absurd (false≢true (sym s ∙ row_itself first row (sym (only_first row (eq_from_same row.tenant first.tenant h) (key_same row.key first.key e) g)))))
        (λ g. g))
        ∙ sym (ap (told_by row) (at-lacking row.key first.key xs ∙ cond-true _ None (item_at row.key xs) e)))
        (λ e.
        cond-false _ false (has0 row) (apart_keys first row e) ∙ told row
        ∙ sym (ap (told_by row) (at-lacking row.key first.key xs ∙ cond-false _ None (item_at row.key xs) e)))
        ∙ sym (ap (λ ys. told_by row (item_at row.key ys)) (lists row.tenant ∙ cond-true _ (filter (lacks_key first.key) xs) xs h)))
        (λ h.
        cond-false _ false (has0 row) (apart_tenants first row h) ∙ told row
        ∙ sym (ap (λ ys. told_by row (item_at row.key ys)) (lists row.tenant ∙ cond-false _ (filter (lacks_key first.key) xs) xs h)))
