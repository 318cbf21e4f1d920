use Rattle.std.proofs.lemmas.Result.{IfErr-weaker, err_from_is_err_and, on_ok_weaker}
use Rattle.am_node.specs.Ticks.{muted_for}
use Rattle.am_site.specs.Here.{here_of}
use Rattle.am_site.proofs.Noticed.{notice_done, notice_fault, notice_stops}
use Rattle.am_site.proofs.site.Site.notify.Goals as goal

pub returns-clause-reacts : goal.returns-clause-reacts
returns-clause-reacts c =
    let s = c.args.here.now.tenant.now in
    on_ok_weaker c.report_all.result
    (λ said. notice_done s (here_of c.args.here.now) (muted_for s c.args.muted.now) c.args.key.now c.args.self.now c.handle.ensures.planned c.requires.position
    c.handle.new.self c.args.outbox.now.items (rw c.context-context.ensures at c.in_ok-reports.ensures.does) (rw c.context-context.ensures at c.in_ok-reports.ensures.fits)
    c.in_ok-reports.reports.items (rw c.context-context.ensures at c.in_ok-reports.ensures.said) c.report_all.new.self c.report_all.new.outbox.items said)
    c.report_all.ensures.reacts

pub returns-clause-fault : goal.returns-clause-fault
returns-clause-fault c =
    let s = c.args.here.now.tenant.now in
    IfErr-weaker c.report_all.result _ _
    (λ fault stops. notice_stops s (here_of c.args.here.now) (muted_for s c.args.muted.now) c.args.key.now c.args.self.now c.handle.ensures.planned c.requires.position
    c.handle.new.self c.args.outbox.now.items (rw c.context-context.ensures at c.in_ok-reports.ensures.does) (rw c.context-context.ensures at c.in_ok-reports.ensures.fits)
    c.in_ok-reports.reports.items (rw c.context-context.ensures at c.in_ok-reports.ensures.said) fault stops)
    c.report_all.ensures.fault

pub returns-in_err-reports-clause-fault : goal.returns-in_err-reports-clause-fault
returns-in_err-reports-clause-fault c =
    let s = c.args.here.now.tenant.now in
    let p = err_from_is_err_and c.from_residual.result c.from_residual.ensures.1 in
    rw (p.1, p.2) (notice_fault s (here_of c.args.here.now) (muted_for s c.args.muted.now) c.args.key.now c.args.self.now c.handle.ensures.planned c.requires.position
    c.in_err-reports.field-0.0 (rw c.context-context.ensures at c.in_err-reports.ensures.fault))
