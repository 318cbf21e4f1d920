use Rattle.std.proofs.Common.{ap, ◌∙◌}
use Rattle.am_agenda.specs.Plan.{with_living}
use Rattle.am_agenda.specs.Planned.{plan_of}
use Rattle.am_agenda.proofs.Keeping.{parts}
use Rattle.am_agenda.proofs.Putting.{kept_swept, plan_swept}
use Rattle.am_agenda.proofs.agenda.Agenda.sweep.Goals as goal

pub invariant_of-self : goal.invariant_of-self
invariant_of-self c =
    kept_swept c.self.inside.paces c.self.inside.attempts c.self.inside.groups c.sweep.new.self
    (λ t. parts (c.sweep.ensures.alerts t) (c.sweep.ensures.flushes t))
    c.self.inside.timers.timers c.self.invariant

pub returns : goal.returns
returns c = record {
  plans = λ t.
      plan_swept c.self.inside.paces c.self.inside.attempts c.self.inside.groups c.sweep.new.self
      (λ s. parts (c.sweep.ensures.alerts s) (c.sweep.ensures.flushes s)) t
      ∙ ap (λ p. with_living (plan_of t p)) c.self.view_is;
}
