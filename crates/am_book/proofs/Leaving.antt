-- What a book holds once a tenant was dropped.
use Rattle.std.proofs.Common.{◌≡◌, ℕ, ◌&&◌, Bool, true, false, cond, not, List, [], None, Ordering, refl, sym, ap, ◌∙◌}
use Rattle.std.specs.BTreeMap.{BTreeMap, IsOrdered, get, is_at}
use Rattle.std.specs.BTreeSet.{BTreeSet}
use Rattle.std.specs.Cmp.Lexicographic.{slice_cmp}
use Rattle.std.specs.List.{filter, list_any}
use Rattle.std.specs.Map.{remove_entry}
use Rattle.std.specs.Ordering.{nat_cmp}
use Rattle.std.proofs.lemmas.Bool.{cond-false, cond-true}
use Rattle.std.proofs.lemmas.Map.Views.{All-map-remove_entry, any-filter_same}
use Rattle.am_tenant.specs.Names.{same}
use Rattle.am_tenant.proofs.Same.{is_eq-name_cmp, same-sym}
use Rattle.am_item.specs.declared.item.Item.{Item}
use Rattle.am_item.specs.Best.{IsRising}
use Rattle.am_item.proofs.Greatest.{by_cases}
use Rattle.am_book.specs.Book.{AreHeld, AreTold, found_items, held_of, items_of, pairs_of}
use Rattle.am_book.specs.Row.{has_row, same_row, tells}
use Rattle.am_book.specs.declared.row.Row.{Row}
use Rattle.am_book.proofs.Lists.{items_of-pairs_of}
use Rattle.am_book.proofs.RowLemmas.{row_same}

-- the order of tenants
abbrev tenants : List ℕ → List ℕ → Ordering
tenants = slice_cmp nat_cmp

-- the row is another tenant's
abbrev pub is_others : List ℕ → Row → Bool
is_others tenant row = not (same row.tenant tenant)

-- where the rows of others are left, none of the tenant's is there, and of every other each that was
pub rows_left : (tenant : List ℕ) (rows left : List Row) → left ≡ filter (is_others tenant) rows
    → (row : Row) → list_any (same_row row) left ≡ cond (same row.tenant tenant) false (list_any (same_row row) rows)
rows_left tenant rows left kept row =
    ap (list_any (same_row row)) kept
    ∙ any-filter_same (same_row row) (is_others tenant) (is_others tenant row)
    (λ r h. ap (is_others tenant) (sym (row_same row r h))) rows
    ∙ by (same row.tenant tenant) (list_any (same_row row) rows)
  where
    by : (b there : Bool) → (not b && there) ≡ cond b false there
    by true there = refl
    by false there = refl

module _ (m n : BTreeMap (List ℕ) (List Item)) (tenant : List ℕ) where
  -- what is left is held as it was
  pub held_left : AreHeld m → IsOrdered tenants n → n.entries ≡ remove_entry (is_at (tenants tenant)) m.entries → AreHeld n
  held_left are ordered entries = record {
    ordered = ordered;
    rising = rw entries (All-map-remove_entry (is_at (tenants tenant)) (λ e. e.1) (λ held. IsRising held) m.entries are.rising);
  }

  module _ (gets : (q : List ℕ) → get tenants n q ≡ cond (is_at (tenants tenant) q) None (get tenants m q)) where
    -- nothing is held of the tenant, and of every other what was
    none_held : (t : List ℕ) → held_of t n ≡ cond (same t tenant) [] (held_of t m)
    none_held t =
        let test : is_at (tenants tenant) t ≡ same t tenant = is_eq-name_cmp tenant t ∙ same-sym tenant t in
        ap found_items (gets t)
        ∙ by_cases (same t tenant)
        (λ h. ap found_items (cond-true _ None (get tenants m t) (test ∙ h)) ∙ sym (cond-true _ [] (held_of t m) h))
        (λ h. ap found_items (cond-false _ None (get tenants m t) (test ∙ h)) ∙ sym (cond-false _ [] (held_of t m) h))

    pub items_left : AreHeld m → IsOrdered tenants n
        → (t : List ℕ) → items_of t (pairs_of n) ≡ cond (same t tenant) [] (items_of t (pairs_of m))
    items_left are ordered t =
        items_of-pairs_of t n ordered ∙ none_held t ∙ ap (cond (same t tenant) []) (sym (items_of-pairs_of t m are.ordered))

    -- the rows that are left tell what is left
    pub told_left : (rows left : BTreeSet Row) → AreTold rows m
        → ((row : Row) → has_row left row ≡ cond (same row.tenant tenant) false (has_row rows row)) → AreTold left n
    unfolding tells
    told_left rows left told gone row =
        gone row
        ∙ by_cases (same row.tenant tenant)
        (λ h.
        cond-true _ false (has_row rows row) h
        ∙ sym (ap (tells row) (none_held row.tenant ∙ cond-true _ [] (held_of row.tenant m) h)))
        (λ h.
        cond-false _ false (has_row rows row) h ∙ told row
        ∙ sym (ap (tells row) (none_held row.tenant ∙ cond-false _ [] (held_of row.tenant m) h)))
