use Rattle.std.proofs.Common.{◌≡◌, take}
use Rattle.am_cluster.specs.Reactions.{each}
use Rattle.am_cluster.specs.Sending.{send_in}
use Rattle.am_site.specs.Here.{here_of}
use Rattle.am_site.specs.Reacting.{Reacts}
use Rattle.am_site.proofs.site.Site.send_all.Given as goal

abbrev pub invariant-loop-instance : goal.invariant-loop-instance
invariant-loop-instance l =
    (Reacts l.here.tenant.now (each (λ i. send_in l.epoch (here_of l.here) i l.body) (take l.instance-index l.to)) l.fn.self l.self l.fn.outbox.items l.outbox.items)
    × ((l.self.node ≡ l.fn.self.node) × (l.self.settling ≡ l.fn.self.settling))
