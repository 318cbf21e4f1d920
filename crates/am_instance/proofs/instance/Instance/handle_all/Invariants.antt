use Rattle.std.proofs.Common.{take}
use Rattle.am_instance.proofs.Turns.{GoesThrough}
use Rattle.am_instance.proofs.instance.Instance.handle_all.Given as goal
use Rattle.am_instance.specs.Here.{circumstances}

abbrev pub invariant-loop-timer : goal.invariant-loop-timer
invariant-loop-timer l = GoesThrough (circumstances l.occasion) l.muted (take l.timer-index l.due) l.fn.self l.self l.told.items
