use Rattle.std.proofs.Common.{sym, ◌∙◌}
use Rattle.std.proofs.lemmas.Result.{on_ok_weaker}
use Rattle.am_cluster.specs.Operating.{replicas_changed}
use Rattle.am_site.specs.Here.{here_of}
use Rattle.am_site.specs.Locals.{local_of}
use Rattle.am_site.proofs.Learned.{ends, ends_all, ends_none}
use Rattle.am_site.proofs.Reacting.{nothing, reacts_from}
use Rattle.am_site.proofs.site.Site.answer_if_changed.Goals as goal

pub returns-then-are_same-clause-reacts : goal.returns-then-are_same-clause-reacts
returns-then-are_same-clause-reacts c =
    let here = here_of c.args.here.now in
    nothing here.tenant (ends here c.args.before.now) c.args.self.now c.args.outbox.now.items
    (ends_none here c.args.before.now (local_of here.tenant c.args.self.now) (sym c.are_same.ensures ∙ c.if-are_same.true))

pub returns-clause-reacts : goal.returns-clause-reacts
returns-clause-reacts c =
    let here = here_of c.args.here.now in
    on_ok_weaker c.replicas_changed.result
    (reacts_from here.tenant replicas_changed (ends here c.args.before.now) c.args.self.now
    (ends_all here c.args.before.now (local_of here.tenant c.args.self.now) (sym c.are_same.ensures ∙ c.if-are_same.false))
    c.replicas_changed.new.self c.args.outbox.now.items c.replicas_changed.new.outbox.items)
    c.replicas_changed.ensures.reacts
