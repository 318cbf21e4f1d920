use Rattle.std.proofs.Common.{◌≡◌}
use Rattle.am_quorum.specs.Deadlines.{without_deadlines}
use Rattle.am_quorum.proofs.docket.Docket.cancel_deadlines.Given as goal

-- what is left once the rest is cancelled is what is to be left
abbrev pub invariant-loop-operation : goal.invariant-loop-operation
invariant-loop-operation l =
    without_deadlines l.tenant l.operation-iterator l.timers.timers ≡ without_deadlines l.tenant l.self.operations l.fn.timers.timers
