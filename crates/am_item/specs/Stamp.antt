-- The order of stamps.
use Rattle.std.specs.Ordering.{nat_cmp, ordering_then}
use Rattle.std.specs.declared.cmp.Ordering.{Ordering}
use Rattle.am_item.specs.declared.stamp.Stamp.{Stamp}

-- stamps in order: by moment, then instance, then incarnation, then count
unfoldable pub stamp_cmp : Stamp → Stamp → Ordering
stamp_cmp a b =
    ordering_then (nat_cmp a.moment b.moment)
    (ordering_then (nat_cmp a.instance b.instance)
    (ordering_then (nat_cmp a.incarnation b.incarnation) (nat_cmp a.count b.count)))
