-- The order of the keys of sent entries.
use Rattle.std.specs.Cmp.{IsTotalOrder, nat_cmp_total, on_total, then_total}
use Rattle.std.specs.Cmp.Lexicographic.{slice_cmp, nat_list_cmp_total}
use Rattle.std.specs.Ordering.{nat_cmp, ordering_then}
use Rattle.std.specs.declared.cmp.Ordering.{Ordering}
use Rattle.am_item.specs.declared.entry.EntryKey.{EntryKey}

-- by receiver, then group, each by bytes, then webhook
abbrev pub entry_cmp : EntryKey → EntryKey → Ordering
entry_cmp a b =
    ordering_then (ordering_then (slice_cmp nat_cmp a.receiver b.receiver) (slice_cmp nat_cmp a.group b.group))
    (nat_cmp a.webhook b.webhook)

pub entry_total : IsTotalOrder entry_cmp
entry_total =
    then_total (then_total (on_total (λ (k : EntryKey). k.receiver) nat_list_cmp_total) (on_total (λ (k : EntryKey). k.group) nat_list_cmp_total))
    (on_total (λ (k : EntryKey). k.webhook) nat_cmp_total)
