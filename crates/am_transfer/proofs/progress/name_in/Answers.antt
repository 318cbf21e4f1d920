use Rattle.std.proofs.Common.{sym, ap, ◌∙◌}
use Rattle.am_transfer.specs.Peers.{with_peer}
use Rattle.am_transfer.specs.Pieces.{SentList}
use Rattle.am_transfer.proofs.Maps.{peers_total, put_found}
use Rattle.am_transfer.proofs.progress.name_in.Goals as goal

pub returns-clause-lists : goal.returns-clause-lists
returns-clause-lists c =
    rw (← c.in-Some.ensures.value)
    ((c.get_mut.follows.holds c.name.new.self).0
    ∙ put_found peers_total c.args.receiver c.args.lists.now.entries c.in-Some.list.now c.name.new.self c.get_mut.ensures.ordered (sym c.in-Some.ensures.value)
    ∙ ap (λ (list : SentList). with_peer c.args.receiver list c.args.lists.now.entries) c.name.ensures)
