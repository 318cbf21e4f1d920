use Rattle.std.proofs.Common.{map}
use Rattle.std.specs.Vec.Iter.{into_iter_items}
use Rattle.am_node.specs.Delivery.{obeyed}
use Rattle.am_node.specs.Local.{said_in}
use Rattle.am_node.proofs.Obeying.{IsOnWay}
use Rattle.am_node.proofs.parts.Parts.obey_all.Given as goal

abbrev pub invariant-loop-one : goal.invariant-loop-one
invariant-loop-one l =
    IsOnWay (obeyed l.context) l.tenant l.fn.self l.fn.next.items l.self (into_iter_items l.one-iterator) (map said_in l.reports.items)
