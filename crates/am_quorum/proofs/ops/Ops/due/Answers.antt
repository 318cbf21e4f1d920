use Rattle.std.proofs.Common.{ap, ◌∙◌, ◌&&◌}
use Rattle.am_timer.specs.Queue.{is_due}
use Rattle.am_timer.specs.Tied.{has_timer}
use Rattle.am_timer.proofs.TiedLemmas.{has-filter}
use Rattle.am_quorum.proofs.ops.Ops.due.Goals as goal

pub returns-clause-due : goal.returns-clause-due
returns-clause-due c =
    rw (← c.self.view_is)
    (λ x.
    ap (λ ts. has_timer ts x) c.in_ok-due.ensures.given ∙ has-filter (is_due c.args.now) c.self.inside.timers.timers x
    ∙ ap (λ b. is_due c.args.now x && b) (c.self.invariant.timed x))
