use Rattle.std.proofs.Common.{◌≡◌, take}
use Rattle.am_cluster.specs.Reactions.{each}
use Rattle.am_cluster.specs.Transfers.{send_piece}
use Rattle.am_site.specs.Here.{here_of}
use Rattle.am_site.specs.Reacting.{Reacts}
use Rattle.am_site.proofs.site.Site.send_pieces.Given as goal

abbrev pub invariant-loop-piece : goal.invariant-loop-piece
invariant-loop-piece l =
    (Reacts l.here.tenant.now (each (send_piece (here_of l.here) l.receiver) (take l.piece-index l.pieces)) l.fn.self l.self l.fn.outbox.items l.outbox.items)
    × ((l.self.node ≡ l.fn.self.node) × (l.self.settling ≡ l.fn.self.settling))
