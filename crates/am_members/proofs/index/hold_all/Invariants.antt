use Rattle.std.proofs.Common.{◌≡◌, ◌++◌, vec_len}
use Rattle.am_members.specs.Grouped.{AreFull, AreGrouped}
use Rattle.am_members.proofs.index.hold_all.Given as goal

abbrev pub invariant-loop-labels : goal.invariant-loop-labels
invariant-loop-labels l = record { all : l.list.items ++ l.alerts.entries ≡ l.fn.list.items; grouped : AreGrouped l.alerts.entries l.groups.entries; full : AreFull l.fn.groups.entries → AreFull l.groups.entries }

abbrev pub decreases-loop-labels : goal.decreases-loop-labels
decreases-loop-labels l = vec_len l.list
