use Rattle.std.proofs.Common.{[], cond, ap, ◌∙◌}
use Rattle.am_tenant.proofs.Same.{same-refl}
use Rattle.am_agenda.specs.Plan.{Plan, with_alerts}
use Rattle.am_agenda.specs.Planned.{plan_of}
use Rattle.am_agenda.proofs.agenda.Agenda.rebuild.Goals as goal

pub put_back-requires-clause-none : goal.put_back-requires-clause-none
put_back-requires-clause-none c =
    let t = c.args.tenant.now in
    ap (λ (p : Plan). p.grouped.alerts) (c.in_ok-take_out.ensures.plans t ∙ ap (λ b. cond b (with_alerts [] (plan_of t c.args.self.now)) (plan_of t c.args.self.now)) (same-refl t))
