use Rattle.std.proofs.Common.{[], ◌++◌, ◌∷◌, ◌∙◌, ap, arith, map}
use Rattle.std.proofs.lemmas.List.{map-append, nil_from_length}
use Rattle.std.proofs.lemmas.Result.{err_from_is_err_and}
use Rattle.am_node.specs.Delivery.{obeyed}
use Rattle.am_node.specs.Local.{said_in}
use Rattle.am_node.proofs.Obeying.{ends, fits_all, goes_on, says_all, stops}
use Rattle.am_node.proofs.parts.Parts.obey_all.Goals as goal

pub loop-one-preserved : goal.loop-one-preserved
loop-one-preserved c =
    goes_on (obeyed c.args.context.now) c.args.tenant.now c.args.self.now c.args.next.items c.loop-one.self c.in-Some.one _ _
    (map said_in c.loop-one.reports.items) (map said_in c.push.new.self.items) c.obey.new.self
    c.in-Some.ensures.steps.0 c.loop-one.invariant c.in_ok-report.ensures.does
    (ap (map said_in) c.in_ok-push.ensures.items ∙ map-append said_in c.loop-one.reports.items (c.in_ok-report.report ∷ [])
    ∙ ap (λ words. map said_in c.loop-one.reports.items ++ words) c.in_ok-report.ensures.said)
    c.in_ok-report.ensures.fits

pub returns-clause-does : goal.returns-clause-does
returns-clause-does c =
    ends (obeyed c.args.context.now) c.args.tenant.now c.args.self.now c.args.next.items c.loop-one.self _ _ (nil_from_length c.loop-one.one-iterator.rest.items (omega (arith, c.loop-one.one-iterator.rest.ok.0, c.in-None.ensures.steps.0))) c.loop-one.invariant

pub returns-clause-said : goal.returns-clause-said
returns-clause-said c =
    says_all (obeyed c.args.context.now) c.args.tenant.now c.args.self.now c.args.next.items c.loop-one.self _ _ (nil_from_length c.loop-one.one-iterator.rest.items (omega (arith, c.loop-one.one-iterator.rest.ok.0, c.in-None.ensures.steps.0))) c.loop-one.invariant

pub returns-clause-fits : goal.returns-clause-fits
returns-clause-fits c =
    fits_all (obeyed c.args.context.now) c.args.tenant.now c.args.self.now c.args.next.items c.loop-one.self _ _ (nil_from_length c.loop-one.one-iterator.rest.items (omega (arith, c.loop-one.one-iterator.rest.ok.0, c.in-None.ensures.steps.0))) c.loop-one.invariant

pub returns-in_err-report-clause-fault : goal.returns-in_err-report-clause-fault
returns-in_err-report-clause-fault c =
    let p = err_from_is_err_and c.from_residual.result c.from_residual.ensures.1 in
    rw (p.1, p.2)
    (stops (obeyed c.args.context.now) c.args.tenant.now c.args.self.now c.args.next.items c.loop-one.self c.in-Some.one _ _ _ _ c.in-Some.ensures.steps.0 c.loop-one.invariant c.in_err-report.ensures.fault)
