use Rattle.std.proofs.Common.{take}
use Rattle.am_node.specs.Held.{local_of}
use Rattle.am_node.specs.Ticks.{AreHandled, context_for}
use Rattle.am_node.proofs.parts.Parts.handle_all.Given as goal

abbrev pub invariant-loop-timer : goal.invariant-loop-timer
invariant-loop-timer l =
    AreHandled (context_for l.start.instance l.start.incarnation l.moment l.limits) l.muted (take l.timer-index l.due) (λ t. local_of t l.fn.self) (λ t. local_of t l.self) l.all.items
