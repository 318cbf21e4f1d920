use Rattle.std.specs.Vec.Iter.{into_iter_items}
use Rattle.am_notifier.proofs.Turns.{IsOnWay}
use Rattle.am_notifier.proofs.notifier.Notifier.tell_all.Given as goal

abbrev pub invariant-loop-telling : goal.invariant-loop-telling
invariant-loop-telling l =
    IsOnWay l.context l.tenant l.fn.self l.fn.tellings.items l.self (into_iter_items l.telling-iterator) l.next.items
