-- What a book holds before and after the item of its first row went.
use Rattle.std.proofs.Common.{◌≡◌, ℕ, true, false, cond, nat_le, List, IsSome, ap, sym, ◌∙◌}
use Rattle.std.specs.BTreeMap.{BTreeMap}
use Rattle.std.specs.BTreeSet.{BTreeSet}
use Rattle.std.specs.List.{filter}
use Rattle.std.specs.Option.{is_some, option_map_or}
use Rattle.am_tenant.specs.Names.{same}
use Rattle.am_item.specs.declared.item.Item.{Item}
use Rattle.am_item.specs.Best.{item_at}
use Rattle.am_item.specs.Retirement.{is_retired}
use Rattle.am_item.proofs.Removed.{lacks_key}
use Rattle.am_book.specs.Book.{AreHeld, AreTold, held_of, items_of, pairs_of}
use Rattle.am_book.specs.Row.{has_row, tells}
use Rattle.am_book.specs.declared.row.Row.{Row}
use Rattle.am_book.proofs.Lists.{items_of-pairs_of, rising_of}
use Rattle.am_book.proofs.RowLemmas.{told_item}
use Rattle.am_book.proofs.Told.{none_retired, stays}

module _ (book : List (List ℕ × Item)) (tenants : BTreeMap (List ℕ) (List Item))
    (is : pairs_of tenants ≡ book) (are : AreHeld tenants) where
  -- what a book has of a tenant is what is held of it
  items_held : (t : List ℕ) → held_of t tenants ≡ items_of t book
  items_held t = sym (items_of-pairs_of t tenants are.ordered) ∙ ap (items_of t) is

  -- where all that is held stayed, a book has what it had
  pub all_stay : (tenants' : BTreeMap (List ℕ) (List Item)) → AreHeld tenants' → ((t : List ℕ) → held_of t tenants' ≡ held_of t tenants)
      → (t : List ℕ) → items_of t (pairs_of tenants') ≡ items_of t book
  all_stay tenants' are' held t = items_of-pairs_of t tenants' are'.ordered ∙ held t ∙ items_held t

  -- where no row is due, nothing is retired
  pub none_due : (rows : BTreeSet Row) → AreTold rows tenants → (moment : ℕ)
      → ((row : Row) → has_row rows row ≡ true → nat_le row.retires_at moment ≡ false)
      → (t : List ℕ) → filter (stays moment) (items_of t book) ≡ items_of t book
  none_due rows told moment later t =
      ap (filter (stays moment)) (sym (items_held t))
      ∙ none_retired (λ s. held_of s tenants) (has_row rows) told moment later t (rising_of t tenants are) ∙ items_held t

  module _ (first : Row) where
    -- the row's item goes from what is held of its tenant
    pub others_stay : (tenants' : BTreeMap (List ℕ) (List Item)) → AreHeld tenants'
        → ((t : List ℕ) →
        held_of t tenants' ≡ cond (same t first.tenant) (filter (lacks_key first.key) (held_of t tenants)) (held_of t tenants))
        → (t : List ℕ)
        → items_of t (pairs_of tenants') ≡ cond (same t first.tenant) (filter (lacks_key first.key) (items_of t book)) (items_of t book)
    others_stay tenants' are' held t =
        items_of-pairs_of t tenants' are'.ordered ∙ held t
        ∙ ap (λ xs. cond (same t first.tenant) (filter (lacks_key first.key) xs) xs) (items_held t)

    module _ (rows : BTreeSet Row) (told : AreTold rows tenants) (there : has_row rows first ≡ true) where
      -- a row's item is held
      pub row_held : IsSome (item_at first.key (held_of first.tenant tenants))
      unfolding tells
      row_held = ap is_some (told_item first (item_at first.key (held_of first.tenant tenants)) (sym (told first) ∙ there)).found

      -- the item of a row that is due is retired
      pub row_retired : (moment : ℕ) → nat_le first.retires_at moment ≡ true
          → option_map_or (is_retired moment) (item_at first.key (items_of first.tenant book)) false ≡ true
      unfolding tells
      row_retired moment due =
          let of_row = told_item first (item_at first.key (held_of first.tenant tenants)) (sym (told first) ∙ there) in
          ap (λ xs. option_map_or (is_retired moment) (item_at first.key xs) false) (sym (items_held first.tenant))
          ∙ ap (λ o. option_map_or (is_retired moment) o false) of_row.found
          ∙ ap (λ o. option_map_or (λ at. nat_le at moment) o false) of_row.at ∙ due
