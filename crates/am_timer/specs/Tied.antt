-- How the two maps of a queue go together.
use Rattle.std.specs.Prelude.{◌≡◌, ℕ, Bool, true, List, Option, Some}
use Rattle.std.specs.List.{list_any}
use Rattle.std.specs.List.Sorted.{IsStrictlySortedBy}
use Rattle.std.specs.Map.{lookup}
use Rattle.std.specs.Ordering.{is_eq}
use Rattle.am_timer.specs.Timer.{Name, Timer, name_cmp, timer_cmp}

-- the timer is in the list
abbrev pub has_timer : List Timer → Timer → Bool
has_timer timers q = list_any (λ timer. is_eq (timer_cmp q timer)) timers

-- when the timer of a name is due
abbrev pub due_in : List (Name × ℕ) → Name → Option ℕ
due_in dues name = lookup (λ other. is_eq (name_cmp name other)) dues

-- the timer of a name
abbrev pub timer_at : ℕ → Name → Timer
timer_at due name = record { due = due; name = name }

-- the timers are in order, and the dues tell of each when it is due, and of no other: so no two have one name
pub record IsTied (timers : List Timer) (dues : List (Name × ℕ)) : Type 0 where
  pub rising : IsStrictlySortedBy timer_cmp timers
  pub told : (timer : Timer) → has_timer timers timer ≡ true → due_in dues timer.name ≡ Some timer.due
  pub there : (name : Name) (due : ℕ) → due_in dues name ≡ Some due → has_timer timers (timer_at due name) ≡ true
