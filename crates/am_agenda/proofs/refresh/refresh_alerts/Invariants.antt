use Rattle.std.proofs.Common.{◌≡◌, cond}
use Rattle.am_members.specs.Grouped.{grouped_of}
use Rattle.am_members.specs.Members.{gave}
use Rattle.am_timer.specs.Tied.{has_timer}
use Rattle.am_timer.specs.Timer.{Timer}
use Rattle.am_agenda.specs.Plan.{all_groups}
use Rattle.am_agenda.specs.Planned.{flush_due_of, is_for_one}
use Rattle.am_agenda.proofs.Named.{groups_among}
use Rattle.am_agenda.proofs.refresh.refresh_alerts.Given as goal

-- what is left to do makes of the timers what all of it makes of those before
abbrev pub invariant-loop-known : goal.invariant-loop-known
invariant-loop-known l = (x : Timer) →
    cond (is_for_one l.tenant l.paces (groups_among l.known-iterator) x) (gave (flush_due_of l.paces (grouped_of l.tenant l.groups) x.name.key) x.due) (has_timer l.timers.timers x)
    ≡ cond (is_for_one l.tenant l.paces (all_groups l.alerts.entries) x) (gave (flush_due_of l.paces (grouped_of l.tenant l.groups) x.name.key) x.due) (has_timer l.fn.timers.timers x)
