use Rattle.std.proofs.Common.{cond, ap, ◌∙◌}
use Rattle.am_tenant.specs.Names.{same}
use Rattle.am_outlet.specs.Attempts.{without}
use Rattle.am_agenda.specs.Plan.{with_desk}
use Rattle.am_agenda.specs.Planned.{plan_of}
use Rattle.am_agenda.proofs.Attempting.{desk_changed, kept_dropped}
use Rattle.am_agenda.proofs.agenda.Agenda.drop_attempt.Goals as goal

pub invariant_of-self : goal.invariant_of-self
invariant_of-self c =
    kept_dropped c.self.inside.paces c.self.inside.groups c.self.inside.attempts c.drop_attempt.new.attempts c.args.tenant.now c.args.key.now c.drop_attempt.result
    c.self.inside.timers.timers c.drop_attempt.new.timers.timers c.self.invariant c.drop_attempt.ensures.each c.drop_attempt.ensures.one c.drop_attempt.ensures.none c.drop_attempt.ensures.timers

pub returns : goal.returns
returns c = record {
  plans = λ t.
      desk_changed c.self.inside.paces c.self.inside.groups c.self.inside.attempts c.drop_attempt.new.attempts c.args.tenant.now (without c.args.key.now) c.drop_attempt.ensures.each t
      ∙ ap (λ p. cond (same t c.args.tenant.now) (with_desk (without c.args.key.now (plan_of t p).desk) (plan_of t p)) (plan_of t p)) c.self.view_is;
}
