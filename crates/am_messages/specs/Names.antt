-- What names a message, and the order of names.
use Rattle.std.specs.Prelude.{ℕ, Bool, List}
use Rattle.std.specs.Cmp.Lexicographic.{slice_cmp}
use Rattle.std.specs.Ordering.{is_eq, nat_cmp, ordering_then}
use Rattle.std.specs.declared.cmp.Ordering.{Ordering}
use Rattle.am_wire.specs.declared.message.Message.{Message}
use Rattle.am_messages.specs.declared.name.MessageName.{MessageName}

-- names in order: by tenant, then sender, incarnation, receiver and count
abbrev pub name_cmp : MessageName → MessageName → Ordering
name_cmp a b =
    ordering_then (slice_cmp nat_cmp a.tenant b.tenant)
    (ordering_then (nat_cmp a.from b.from)
    (ordering_then (nat_cmp a.incarnation b.incarnation)
    (ordering_then (nat_cmp a.to b.to) (nat_cmp a.count b.count))))

abbrev pub same_name : MessageName → MessageName → Bool
same_name a b = is_eq (name_cmp a b)

abbrev pub name_of : Message → MessageName
name_of m = record { tenant = m.tenant; from = m.from; incarnation = m.incarnation; to = m.to; count = m.count }
