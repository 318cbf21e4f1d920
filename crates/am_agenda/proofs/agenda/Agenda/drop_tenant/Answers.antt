use Rattle.std.proofs.Common.{ap, cond, ◌∙◌}
use Rattle.am_tenant.specs.Names.{same}
use Rattle.am_agenda.specs.Plan.{dropped}
use Rattle.am_agenda.specs.Planned.{plan_of}
use Rattle.am_agenda.proofs.Dropping.{kept_dropping, never_fails, plan_dropped}
use Rattle.am_agenda.proofs.agenda.Agenda.drop_tenant.Goals as goal

pub invariant_of-self : goal.invariant_of-self
invariant_of-self c =
    let own = c.self.inside in
    let emptied = c.drop_tenant-dropped in
    kept_dropping c.args.tenant.now _ _ own.timers.timers emptied.new.self.timers
    (plan_dropped c.args.tenant.now own.paces c.drop_tenant.new.self own.groups c.clear.new.self own.attempts
    c.clear-2.new.self c.drop_tenant.ensures c.clear.ensures.grouped c.clear-2.ensures.each)
    (never_fails emptied.result emptied.ensures.refusal (emptied.ensures.dropped tt tt)) c.self.invariant

pub returns : goal.returns
returns c = λ t.
    let own = c.self.inside in
    plan_dropped c.args.tenant.now own.paces c.drop_tenant.new.self own.groups c.clear.new.self own.attempts
    c.clear-2.new.self c.drop_tenant.ensures c.clear.ensures.grouped c.clear-2.ensures.each t
    ∙ ap (λ p. cond (same t c.args.tenant.now) (dropped (plan_of t p)) (plan_of t p)) c.self.view_is
