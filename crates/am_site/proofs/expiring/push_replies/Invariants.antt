use Rattle.std.proofs.Common.{◌≡◌, ◌++◌, map, take}
use Rattle.am_cluster.specs.Reactions.{Replies}
use Rattle.am_site.specs.Reacting.{said_in}
use Rattle.am_site.proofs.expiring.push_replies.Given as goal

abbrev pub invariant-loop-connection : goal.invariant-loop-connection
invariant-loop-connection l =
    map said_in l.outbox.items ≡ map said_in l.fn.outbox.items ++ map (λ connection. Replies connection l.reply) (take l.connection-index l.connections)
