use Rattle.std.proofs.Common.{◌≡◌, take}
use Rattle.am_cluster.specs.Reactions.{each}
use Rattle.am_cluster.specs.Transfers.{begin_push}
use Rattle.am_site.specs.Here.{here_of}
use Rattle.am_site.specs.Reacting.{Reacts}
use Rattle.am_site.proofs.site.Site.push_all.Given as goal

abbrev pub invariant-loop-to : goal.invariant-loop-to
invariant-loop-to l =
    (Reacts l.here.tenant.now (each (begin_push (here_of l.here)) (take l.to-index l.receivers)) l.fn.self l.self l.fn.outbox.items l.outbox.items)
    × (l.self.node ≡ l.fn.self.node)
