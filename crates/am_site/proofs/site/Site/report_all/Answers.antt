use Rattle.std.proofs.Common.{◌≡◌, ◌++◌, ◌∷◌, ◌∙◌, ap, append_assoc, refl, subst, sym}
use Rattle.std.proofs.lemmas.Result.{err_from_is_err_and}
use Rattle.std.specs.Vec.Iter.{into_iter_items}
use Rattle.am_cluster.specs.Local.{Local}
use Rattle.am_cluster.specs.Reactions.{Reaction, each}
use Rattle.am_node.specs.declared.report.Report.{Report}
use Rattle.am_site.specs.Here.{here_of}
use Rattle.am_site.specs.Notices.{reported}
use Rattle.am_site.specs.Reacting.{StopsReacting}
use Rattle.am_site.proofs.Reacting.{none_yet, one_more, stops_at}
use Rattle.am_site.proofs.site.Site.report_all.Goals as goal

pub loop-report-init : goal.loop-report-init
loop-report-init c = (
  (none_yet c.args.here.now.tenant.now (reported (here_of c.args.here.now)) c.args.self.now c.args.outbox.now.items, refl),
  c.into_iter-report-iterator.ensures.into_iter_gives.0,
)

pub loop-report-preserved : goal.loop-report-preserved
loop-report-preserved c = (
  (
    one_more c.args.here.now.tenant.now (reported (here_of c.args.here.now)) c.loop-report.yielded c.in-Some.report c.args.self.now c.loop-report.self c.report.new.self
        c.args.outbox.now.items c.loop-report.outbox.items c.report.new.outbox.items c.loop-report.invariant.0.0 c.in_ok-report.ensures.reacts,
    c.report.ensures.node ∙ c.loop-report.invariant.0.1,
  ),
  append_assoc c.loop-report.yielded _ _ ∙ ap (λ xs. c.loop-report.yielded ++ xs) (sym c.in-Some.ensures.steps.0) ∙ c.loop-report.invariant.1,
)

pub returns-in_err-report-clause-fault : goal.returns-in_err-report-clause-fault
returns-in_err-report-clause-fault c =
    let react : Report → Local → Reaction = reported (here_of c.args.here.now) in
    let p = err_from_is_err_and c.from_residual.result c.from_residual.ensures.1 in
    let whole : c.args.reports.items ≡ c.loop-report.yielded ++ c.in-Some.report ∷ into_iter_items c.next.new.self = sym c.loop-report.invariant.1 ∙ ap (λ xs. c.loop-report.yielded ++ xs) c.in-Some.ensures.steps.0 in
    rw (p.1, p.2)
    (subst (λ xs. StopsReacting c.args.here.now.tenant.now (each react xs) c.args.self.now c.in_err-report.field-0.0) (sym whole)
    (stops_at c.args.here.now.tenant.now react c.loop-report.yielded c.in-Some.report _ c.args.self.now c.loop-report.self _ _ _ c.loop-report.invariant.0.0 c.in_err-report.ensures.fault))
