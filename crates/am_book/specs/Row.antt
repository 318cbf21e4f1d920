-- Rows: what retires when, in order.
use Rattle.std.specs.Prelude.{ℕ, Bool, false, List}
use Rattle.std.specs.BTreeSet.{BTreeSet, contains}
use Rattle.std.specs.Cmp.{IsTotalOrder, nat_cmp_total, on_total, then_total}
use Rattle.std.specs.Cmp.Lexicographic.{slice_cmp, nat_list_cmp_total}
use Rattle.std.specs.Option.{option_map_or}
use Rattle.std.specs.Ordering.{is_eq, nat_cmp, ordering_then}
use Rattle.std.specs.declared.cmp.Ordering.{Ordering}
use Rattle.am_item.specs.Best.{item_at}
use Rattle.am_item.specs.Key.{key_cmp}
use Rattle.am_item.specs.KeyTotal.{keys_total}
use Rattle.am_item.specs.Retirement.{standing_of}
use Rattle.am_item.specs.Stamp.{stamp_cmp}
use Rattle.am_item.specs.declared.held.Standing.{Standing}
use Rattle.am_item.specs.declared.item.Item.{Item}
use Rattle.am_item.specs.declared.key.ThingKey.{ThingKey}
use Rattle.am_item.proofs.Order.{stamps_total}
use Rattle.am_book.specs.declared.row.Row.{Row}

-- rows in order: by moment of retirement, then stamp, then tenant, then key
unfoldable pub row_cmp : Row → Row → Ordering
row_cmp a b =
    ordering_then (ordering_then (nat_cmp a.retires_at b.retires_at) (stamp_cmp a.stamp b.stamp))
    (ordering_then (slice_cmp nat_cmp a.tenant b.tenant) (key_cmp a.key b.key))

pub rows_total : IsTotalOrder row_cmp
unfolding row_cmp
rows_total =
    then_total (then_total (on_total (λ (r : Row). r.retires_at) nat_cmp_total) (on_total (λ (r : Row). r.stamp) stamps_total))
    (then_total (on_total (λ (r : Row). r.tenant) nat_list_cmp_total) (on_total (λ (r : Row). r.key) keys_total))

-- two rows are the same
abbrev pub same_row : Row → Row → Bool
same_row a b = is_eq (row_cmp a b)

-- the row of what stands at a tenant's key; what never retires has none
abbrev pub is_row_of : List ℕ → ThingKey → Standing → Row → Bool
is_row_of tenant key standing row =
    option_map_or (λ at. same_row (record { retires_at = at; stamp = standing.stamp; tenant = tenant; key = key }) row) standing.retires_at false

-- the row is of an item that is held of its tenant
unfoldable pub tells : Row → List Item → Bool
tells row held = option_map_or (λ item. is_row_of row.tenant row.key (standing_of item) row) (item_at row.key held) false

-- a set of rows has a row
abbrev pub has_row : BTreeSet Row → Row → Bool
has_row rows row = contains row_cmp rows row
