use Rattle.std.proofs.Common.{◌≡◌, ◌++◌}
use Rattle.std.specs.Vec.Iter.{into_iter_items}
use Rattle.am_cluster.specs.Reactions.{each}
use Rattle.am_site.specs.Here.{here_of}
use Rattle.am_site.specs.Notices.{reported}
use Rattle.am_site.specs.Reacting.{Reacts}
use Rattle.am_site.proofs.site.Site.report_all.Given as goal

abbrev pub invariant-loop-report : goal.invariant-loop-report
invariant-loop-report l =
    (Reacts l.here.tenant.now (each (reported (here_of l.here)) l.yielded) l.fn.self l.self l.fn.outbox.items l.outbox.items
    × (l.self.node ≡ l.fn.self.node))
    × (l.yielded ++ into_iter_items l.report-iterator ≡ l.fn.reports.items)
