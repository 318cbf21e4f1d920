use Rattle.std.proofs.Common.{ap, ◌∙◌, ◌&&◌}
use Rattle.am_timer.specs.Queue.{is_due}
use Rattle.am_timer.specs.Tied.{has_timer}
use Rattle.am_timer.proofs.TiedLemmas.{has-filter}
use Rattle.am_transfer.proofs.settling.Settling.due.Goals as goal

pub returns-clause-told : goal.returns-clause-told
returns-clause-told c =
    rw (← c.self.view_is)
    (λ timed x.
    ap (λ ts. has_timer ts x) c.in_ok-due.ensures.given ∙ has-filter (is_due c.args.now) c.self.inside.timers.timers x
    ∙ ap (λ b. is_due c.args.now x && b) (timed x))
