use Rattle.std.proofs.Common.{ap, sym, ◌∙◌}
use Rattle.am_cluster.specs.Delivery.{outcome}
use Rattle.am_node.specs.Delivery.{records}
use Rattle.std.proofs.lemmas.Result.{IfErr-weaker, err_from_is_err_and, on_ok_weaker}
use Rattle.am_site.specs.Here.{here_of}
use Rattle.am_site.proofs.Delivered.{outcome_done, outcome_fault, outcome_put, outcome_stops}
use Rattle.am_site.proofs.Quiet.{outcome_quiet, quiet_in_order}
use Rattle.am_site.proofs.Sound.{outcome_sound}
use Rattle.am_site.proofs.site.Site.outcome.Goals as goal

pub returns-in-None-clause-reacts : goal.returns-in-None-clause-reacts
returns-in-None-clause-reacts c =
    outcome_done c.args.here.now.tenant.now (here_of c.args.here.now) c.args.number c.args.tries c.args.status c.args.self.now c.outcome.new.self c.args.outbox.now.items
    (rw c.context-context.ensures at c.in_ok-recorded.ensures.does) (rw c.context-context.ensures at c.in_ok-recorded.ensures.fits) (ap records (sym c.in-None.is) ∙ rw c.context-context.ensures at c.in_ok-recorded.ensures.said)

pub returns-in-Some-clause-reacts : goal.returns-in-Some-clause-reacts
returns-in-Some-clause-reacts c =
    on_ok_weaker c.put_to_others.result
    (λ put. outcome_put c.args.here.now.tenant.now (here_of c.args.here.now) c.args.number c.args.tries c.args.status c.args.self.now c.outcome.new.self c.args.outbox.now.items
    (rw c.context-context.ensures at c.in_ok-recorded.ensures.does) (rw c.context-context.ensures at c.in_ok-recorded.ensures.fits) c.in-Some.entry (ap records (sym c.in-Some.is) ∙ rw c.context-context.ensures at c.in_ok-recorded.ensures.said)
    c.put_to_others.new.self c.put_to_others.new.outbox.items put)
    c.put_to_others.ensures.reacts

pub returns-in-Some-clause-fault : goal.returns-in-Some-clause-fault
returns-in-Some-clause-fault c =
    IfErr-weaker c.put_to_others.result _ _
    (λ fault stops. outcome_stops c.args.here.now.tenant.now (here_of c.args.here.now) c.args.number c.args.tries c.args.status c.args.self.now c.outcome.new.self c.args.outbox.now.items
    (rw c.context-context.ensures at c.in_ok-recorded.ensures.does) (rw c.context-context.ensures at c.in_ok-recorded.ensures.fits) c.in-Some.entry (ap records (sym c.in-Some.is) ∙ rw c.context-context.ensures at c.in_ok-recorded.ensures.said)
    fault stops)
    c.put_to_others.ensures.fault

pub returns-in_err-recorded-clause-fault : goal.returns-in_err-recorded-clause-fault
returns-in_err-recorded-clause-fault c =
    let p = err_from_is_err_and c.from_residual.result c.from_residual.ensures.1 in
    rw (p.1, p.2) (outcome_fault c.args.here.now.tenant.now (here_of c.args.here.now) c.args.number c.args.tries c.args.status c.args.self.now
    c.in_err-recorded.field-0.0 (rw c.context-context.ensures at c.in_err-recorded.ensures.fault))

pub returns-in-Some-clause-order : goal.returns-in-Some-clause-order
returns-in-Some-clause-order c order =
    let here = here_of c.args.here.now in
    on_ok_weaker c.put_to_others.result
    (λ reacts. quiet_in_order here (outcome here c.args.number c.args.tries c.args.status) c.args.self.now c.put_to_others.new.self c.args.outbox.now.items c.put_to_others.new.outbox.items (outcome_quiet here c.args.number c.args.tries c.args.status) (outcome_sound here c.args.number c.args.tries c.args.status) reacts order)
    (returns-in-Some-clause-reacts c)

pub returns-in-None-clause-order : goal.returns-in-None-clause-order
returns-in-None-clause-order c order =
    let here = here_of c.args.here.now in
    quiet_in_order here (outcome here c.args.number c.args.tries c.args.status) c.args.self.now _ c.args.outbox.now.items c.args.outbox.now.items
    (outcome_quiet here c.args.number c.args.tries c.args.status) (outcome_sound here c.args.number c.args.tries c.args.status) (returns-in-None-clause-reacts c) order
