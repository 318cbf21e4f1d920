use Rattle.std.proofs.Common.{ap, ◌∙◌}
use Rattle.am_timer.specs.Queue.{due_at}
use Rattle.am_agenda.specs.Plan.{timers_in}
use Rattle.am_agenda.specs.Planned.{plan_of}
use Rattle.am_agenda.proofs.Due.{given_is}
use Rattle.am_agenda.proofs.agenda.Agenda.due.Goals as goal

pub returns-clause-due : goal.returns-clause-due
returns-clause-due c = λ t.
    given_is _ c.self.inside.timers.timers c.in_ok-due.due.items c.args.now t c.self.invariant.timed c.in_ok-due.ensures.given c.in_ok-due.ensures.order
    ∙ ap (λ p. due_at c.args.now (timers_in t (plan_of t p))) c.self.view_is
