-- The queue of the timers of all tenants: their list, in order.
use Rattle.std.specs.Prelude.{ℕ, Bool, not, nat_le, List, filter, map}
use Rattle.std.specs.BTreeSet.{insert_key}
use Rattle.std.specs.Ordering.{is_eq}
use Rattle.am_tenant.specs.Names.{same}
use Rattle.am_timer.specs.Timer.{Name, Timer, name_cmp, timer_cmp}

-- what a queue is: its timers in order, and how many of them the last question for due timers looked at
pub record Queue : Type 0 where
  pub timers : List Timer
  pub looked : ℕ

-- the timer has this name
abbrev pub is_named : Name → Timer → Bool
is_named name timer = is_eq (name_cmp name timer.name)

-- the timers but that of this name
abbrev pub without : Name → List Timer → List Timer
without name timers = filter (λ timer. not (is_named name timer)) timers

-- the timers with one more, at its place in the order, which replaces that of its name
abbrev pub with_timer : Timer → List Timer → List Timer
with_timer timer timers = insert_key timer_cmp (without timer.name timers) timer

-- the timer is due at the moment or before it
abbrev pub is_due : ℕ → Timer → Bool
is_due now timer = nat_le timer.due now

-- the timers that are due, in their order
abbrev pub due_at : ℕ → List Timer → List Timer
due_at now timers = filter (is_due now) timers

-- the timers of a tenant, in their order
unfoldable pub timers_of : List ℕ → List Timer → List Timer
timers_of t timers = filter (λ timer. same t timer.name.tenant) timers

-- the timers, each with whose it is
abbrev pub pairs_of : List Timer → List (List ℕ × Timer)
pairs_of timers = map (λ timer. (timer.name.tenant, timer)) timers
