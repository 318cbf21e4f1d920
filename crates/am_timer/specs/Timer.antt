-- Timers, what names them, and their order.
use Rattle.std.specs.Prelude.{ℕ}
use Rattle.std.specs.Cmp.Lexicographic.{slice_cmp}
use Rattle.std.specs.Ordering.{nat_cmp, ordering_then}
use Rattle.std.specs.declared.cmp.Ordering.{Ordering}
use Rattle.am_labels.specs.Labels.{labels_cmp}
use Rattle.am_timer.specs.declared.key.FlushKey.{FlushKey}
use Rattle.am_timer.specs.declared.key.TimerKey.{TimerKey}
use Rattle.am_timer.specs.declared.key.TimerKey.TheVariants.{Operation, Group, Retry, Push}
use Rattle.am_timer.specs.declared.timer.TimerName.{TimerName as DeclaredName}
use Rattle.am_timer.specs.declared.timer.Timer.{Timer as DeclaredTimer}

abbrev pub Key : Type 0
Key = TimerKey

abbrev pub Name : Type 0
Name = DeclaredName

abbrev pub Timer : Type 0
Timer = DeclaredTimer

-- groups in order: by the receiver's name, then labels, then route
abbrev pub flush_key_cmp : FlushKey → FlushKey → Ordering
flush_key_cmp a b =
    ordering_then (slice_cmp nat_cmp a.receiver b.receiver) (ordering_then (labels_cmp a.labels b.labels) (nat_cmp a.route b.route))

-- the order of the kinds
abbrev pub kind_of : Key → ℕ
kind_of (Operation number) = 0
kind_of (Group group) = 1
kind_of (Retry number) = 2
kind_of (Push instance) = 3

-- keys in order: by kind; then by number, groups in their own order
unfoldable pub key_cmp : Key → Key → Ordering
key_cmp (Operation a) (Operation b) = nat_cmp a b
key_cmp (Group a) (Group b) = flush_key_cmp a b
key_cmp (Retry a) (Retry b) = nat_cmp a b
key_cmp (Push a) (Push b) = nat_cmp a b
key_cmp a b = nat_cmp (kind_of a) (kind_of b)

-- names in order: by tenant, then key
abbrev pub name_cmp : Name → Name → Ordering
name_cmp a b = ordering_then (slice_cmp nat_cmp a.tenant b.tenant) (key_cmp a.key b.key)

-- timers in order: by moment, then tenant, then key
abbrev pub timer_cmp : Timer → Timer → Ordering
timer_cmp a b = ordering_then (nat_cmp a.due b.due) (name_cmp a.name b.name)
