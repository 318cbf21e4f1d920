-- What an instance has of each tenant.
use Rattle.std.specs.Prelude.{ℕ, List}
use Rattle.am_cluster.specs.Local.{Local}
use Rattle.am_transfer.specs.Settling.{Settling}
use Rattle.am_transfer.specs.Tenants.{settling_of}
use Rattle.am_item.specs.Counts.{count_of}
use Rattle.am_node.specs.Held.{local_of as local_in_node}
use Rattle.am_node.specs.Local.{Local as NodeLocal}
use Rattle.am_notifier.specs.Following.{sinces_in}
use Rattle.am_quorum.specs.Dockets.{Docket, docket_of}
use Rattle.am_site.specs.declared.site.Site.{Site}

-- what it holds and has planned by itself, its operations, how many messages it sent, and how it settles
abbrev pub from_rooms : NodeLocal → Docket → (sent : ℕ) → Settling → Local
from_rooms node docket sent settling = record {
  held = node.held;
  sinces = sinces_in node.plan;
  flushes = node.plan.grouped.flushes;
  noticed = node.noticed;
  desk = node.plan.desk;
  operations = docket.operations;
  settling = settling;
  ledger = record {
    stamps = node.ledger.stamps;
    messages = sent;
    operations = docket.used;
    drawn = node.ledger.drawn;
  };
}

unfoldable pub local_of : List ℕ → Site → Local
local_of t site =
    from_rooms (local_in_node t site.node) (docket_of t site.operations) (count_of t site.sent)
    (settling_of t site.settling.progress)
