use Rattle.std.proofs.Common.{◌≡◌, ◌+◌, ◌++◌, length}
use Rattle.std.specs.List.Sorted.{IsStrictlySortedBy}
use Rattle.am_timer.specs.Timer.{timer_cmp}
use Rattle.am_timer.specs.Queue.{due_at}
use Rattle.am_timer.proofs.queue.first_due.Given as goal

-- what is listed so far, and what is due of the rest, are what is due
abbrev pub invariant-loop-timer : goal.invariant-loop-timer
invariant-loop-timer l = record {
  listed : l.due.items ++ due_at l.now l.timer-iterator ≡ due_at l.now l.by_due.keys;
  rising : IsStrictlySortedBy timer_cmp l.timer-iterator;
  together : length l.due.items + length l.timer-iterator ≡ length l.by_due.keys;
  counted : l.looked ≡ length l.due.items;
}
