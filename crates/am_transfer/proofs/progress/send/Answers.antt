use Rattle.std.proofs.Common.{sym}
use Rattle.am_transfer.proofs.Maps.{peers_total, put_same}
use Rattle.am_transfer.proofs.progress.send.Goals as goal

pub returns-in-Some-clause-lists : goal.returns-in-Some-clause-lists
returns-in-Some-clause-lists c =
    rw (← c.in-Some.ensures.value)
    (sym (put_same peers_total c.args.receiver c.args.lists.now.entries c.in-Some.list.now c.requires (sym c.in-Some.ensures.value)))
