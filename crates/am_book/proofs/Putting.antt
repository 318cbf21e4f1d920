-- What a put did tells what was held, and what the rows of a tenant then are.
use Rattle.std.proofs.Common.{◌≡◌, ℕ, Bool, true, false, cond, not, List, Option, Some, None, refl, sym, ap, ◌∙◌}
use Rattle.std.specs.Option.{is_some, option_map}
use Rattle.std.specs.Ordering.{is_gt}
use Rattle.std.proofs.lemmas.Bool.{false≢true}
use Rattle.am_tenant.specs.Names.{same}
use Rattle.am_item.specs.Best.{IsRising, item_at, joined}
use Rattle.am_item.specs.Key.{key_of}
use Rattle.am_item.specs.Retirement.{put_over, standing_of}
use Rattle.am_item.specs.Stamp.{stamp_cmp}
use Rattle.am_item.specs.declared.held.Put.{Put}
use Rattle.am_item.specs.declared.held.Put.TheVariants.{New, Older, Replaced}
use Rattle.am_item.specs.declared.held.Standing.{Standing}
use Rattle.am_item.specs.declared.item.Item.{Item}
use Rattle.am_item.specs.declared.key.ThingKey.{ThingKey}
use Rattle.am_item.specs.declared.stamp.Stamp.{Stamp}
use Rattle.am_item.proofs.Greatest.{some_same}
use Rattle.am_item.proofs.Joining.{joined_stays}
use Rattle.am_book.specs.Row.{is_row_of, tells}
use Rattle.am_book.specs.declared.row.Row.{Row}
use Rattle.am_book.proofs.Told.{told_added, told_replaced, told_still}

-- ---- what was held

-- what a put replaced
abbrev replaced : Put → Option Standing
replaced New = None
replaced (Replaced old) = Some old
replaced Older = None

-- the put was of a key that none had
abbrev was_new : Put → Bool
was_new New = true
was_new (Replaced old) = false
was_new Older = false

not_new : (b : Bool) (s : Standing) → false ≡ was_new (cond b (Replaced s) Older)
not_new true s = refl
not_new false s = refl

replaces : (b : Bool) (old s : Standing) → Replaced old ≡ cond b (Replaced s) Older → (b ≡ true) × (old ≡ s)
replaces true old s h = (refl, some_same old s (ap replaced h))
replaces false old s h = absurd (false≢true (sym (ap (λ p. is_some (replaced p)) h)))

stays_older : (b : Bool) (s : Standing) → Older ≡ cond b (Replaced s) Older → b ≡ false
stays_older true s h = absurd (false≢true (ap (λ p. is_some (replaced p)) h))
stays_older false s h = refl

none_was : (o : Option Item) (stamp : Stamp) → New ≡ put_over (option_map standing_of o) stamp → o ≡ None
none_was None stamp h = refl
none_was (Some x) stamp h = absurd (false≢true (not_new (is_gt (stamp_cmp stamp x.stamp)) (standing_of x) ∙ sym (ap was_new h)))

-- the item that was replaced
record WasReplaced (old : Standing) (o : Option Item) (stamp : Stamp) : Type 0 where
  pub item : Item
  pub found : o ≡ Some item
  pub is : old ≡ standing_of item
  pub greater : is_gt (stamp_cmp stamp item.stamp) ≡ true

one_replaced : (old : Standing) (o : Option Item) (stamp : Stamp) → Replaced old ≡ put_over (option_map standing_of o) stamp → WasReplaced old o stamp
one_replaced old None stamp h = absurd (false≢true (ap was_new h))
one_replaced old (Some x) stamp h =
    let both = replaces (is_gt (stamp_cmp stamp x.stamp)) old (standing_of x) h in
    record { item = x; found = refl; is = both.1; greater = both.0 }

-- the item that stayed
record Stayed (o : Option Item) (stamp : Stamp) : Type 0 where
  pub item : Item
  pub found : o ≡ Some item
  pub no_greater : is_gt (stamp_cmp stamp item.stamp) ≡ false

one_stayed : (o : Option Item) (stamp : Stamp) → Older ≡ put_over (option_map standing_of o) stamp → Stayed o stamp
one_stayed None stamp h = absurd (false≢true (ap was_new h))
one_stayed (Some x) stamp h = record { item = x; found = refl; no_greater = stays_older (is_gt (stamp_cmp stamp x.stamp)) (standing_of x) h }

-- ---- the rows, where nothing was put

gone_again : (b h : Bool) → (b ≡ true → h ≡ false) → cond b false (cond b true h) ≡ h
gone_again true h f = sym (f refl)
gone_again false h f = refl

there_before : (b h : Bool) → (b ≡ true → h ≡ true) → cond b true h ≡ h
there_before true h f = sym (f refl)
there_before false h f = refl

-- ---- what the rows tell once the row of an item came and the item was put

module _ (t : List ℕ) (item : Item) (k own : ThingKey) (s : Standing) (named : k ≡ key_of item) (own_named : own ≡ key_of item) (stands : s ≡ standing_of item)
    (old new : List Item) (up : IsRising old) (has0 has1 : Row → Bool) (told : (row : Row) → same row.tenant t ≡ true → has0 row ≡ tells row old)
    (came : (row : Row) → has1 row ≡ cond (is_row_of t k s row) true (has0 row)) where
  -- the row is that of the item
  its_row : Row → Bool
  its_row row = is_row_of t (key_of item) (standing_of item) row

  is_its : (q : ThingKey) → q ≡ key_of item → (row : Row) → is_row_of t q s row ≡ its_row row
  unfolding its_row
  is_its q e row = ap (λ p. is_row_of t p s row) e ∙ ap (λ r. is_row_of t (key_of item) r row) stands

  its_came : (row : Row) → has1 row ≡ cond (its_row row) true (has0 row)
  its_came row = came row ∙ ap (λ b. cond b true (has0 row)) (is_its k named row)

  -- none of its key was held
  pub told_new : New ≡ put_over (option_map standing_of (item_at (key_of item) old)) item.stamp → new ≡ joined old item
      → (row : Row) → has1 row ≡ cond (same row.tenant t) (tells row new) (has0 row)
  unfolding its_row
  told_new put joins row =
      told_added t (key_of item) item old up refl has0 has1 told (none_was (item_at (key_of item) old) item.stamp put) its_came row
      ∙ ap (λ xs. cond (same row.tenant t) (tells row xs) (has0 row)) (sym joins)

  module _ (has2 : Row → Bool) where
    -- it replaced one, whose row went
    pub told_in_place : (gone : Standing) → Replaced gone ≡ put_over (option_map standing_of (item_at (key_of item) old)) item.stamp → new ≡ joined old item
        → ((row : Row) → has2 row ≡ cond (is_row_of t own gone row) false (has1 row)) → (row : Row) → has2 row ≡ cond (same row.tenant t) (tells row new) (has0 row)
    unfolding its_row
    told_in_place gone put joins went row =
        let was = one_replaced gone (item_at (key_of item) old) item.stamp put in
        told_replaced t (key_of item) item old up refl has0 has2 told was.item was.found was.greater
        (λ r.
        went r ∙ ap (λ q. cond (is_row_of t q gone r) false (has1 r)) own_named ∙ ap (λ g. cond (is_row_of t (key_of item) g r) false (has1 r)) was.is
        ∙ ap (cond (is_row_of t (key_of item) (standing_of was.item) r) false) (its_came r))
        row
        ∙ ap (λ xs. cond (same row.tenant t) (tells row xs) (has0 row)) (sym joins)

    -- its row went again, which was new
    row_gone : ((row : Row) → has2 row ≡ cond (is_row_of t own s row) false (has1 row)) → ((row : Row) → its_row row ≡ true → has0 row ≡ false) → (row : Row) → has2 row ≡ has0 row
    row_gone went fresh row =
        went row ∙ ap (λ b. cond b false (has1 row)) (is_its own own_named row) ∙ ap (cond (its_row row) false) (its_came row)
        ∙ gone_again (its_row row) (has0 row) (fresh row)

  -- where one that is no older was held, all stays
  pub older_stays : Older ≡ put_over (option_map standing_of (item_at (key_of item) old)) item.stamp → new ≡ joined old item → new ≡ old
  older_stays put joins =
      let stayed = one_stayed (item_at (key_of item) old) item.stamp put in
      joins ∙ joined_stays old stayed.item item up stayed.found stayed.no_greater

  -- nothing was put
  module _ (still : new ≡ old) (added : Bool) (fresh : (row : Row) → is_row_of t k s row ≡ true → has0 row ≡ not added) where
    -- the row, which was new, went again
    pub told_taken_back : (has2 : Row → Bool) → added ≡ true → ((row : Row) → has2 row ≡ cond (is_row_of t own s row) false (has1 row))
        → (row : Row) → has2 row ≡ cond (same row.tenant t) (tells row new) (has0 row)
    told_taken_back has2 is went =
        told_still t old new has0 has2 told still (row_gone has2 went (λ row h. fresh row (is_its k named row ∙ h) ∙ ap not is))

    -- the row was there before
    pub told_before : added ≡ false → (row : Row) → has1 row ≡ cond (same row.tenant t) (tells row new) (has0 row)
    told_before is =
        told_still t old new has0 has1 told still
        (λ row. its_came row ∙ there_before (its_row row) (has0 row) (λ h. fresh row (is_its k named row ∙ h) ∙ ap not is))
