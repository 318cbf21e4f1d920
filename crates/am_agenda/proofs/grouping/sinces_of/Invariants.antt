use Rattle.std.proofs.Common.{◌≡◌, ◌++◌, map}
use Rattle.am_agenda.proofs.grouping.sinces_of.Given as goal

abbrev pub invariant-loop-labels : goal.invariant-loop-labels
invariant-loop-labels l = l.all.items ++ map (λ a. (a.0, a.1.since)) l.labels-iterator ≡ map (λ a. (a.0, a.1.since)) l.alerts.entries
