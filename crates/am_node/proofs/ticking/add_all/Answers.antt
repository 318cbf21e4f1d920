use Rattle.std.proofs.Common.{◌∙◌, ap}
use Rattle.am_node.specs.Ticks.{said_of}
use Rattle.am_node.proofs.Ticks.{said_more}
use Rattle.am_node.proofs.ticking.add_all.Goals as goal

pub loop-report-preserved : goal.loop-report-preserved
loop-report-preserved c = λ t.
    ap (λ items. said_of t items) c.in_ok-push.ensures.items
    ∙ said_more t c.args.tenant.now c.loop-report.all.items c.loop-report.yielded c.in-Some.report _ (c.loop-report.invariant t)
