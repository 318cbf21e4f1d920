use Rattle.std.proofs.Common.{sym, ◌∙◌}
use Rattle.std.proofs.lemmas.Result.{IfErr-weaker, on_ok_weaker}
use Rattle.am_cluster.specs.RingChanges.{push_if_settled}
use Rattle.am_cluster.specs.Transfers.{begin_push}
use Rattle.am_site.specs.Here.{here_of}
use Rattle.am_site.specs.Locals.{local_of}
use Rattle.am_site.proofs.Reacting.{nothing, reacts_from, stops_from}
use Rattle.am_site.proofs.Restarted.{pushes_elsewhere, pushes_empty, pushes_holding, pushes_unsettled}
use Rattle.am_site.proofs.site.Site.push_if_settled.Goals as goal

pub returns-then-not-is_replica-clause-reacts : goal.returns-then-not-is_replica-clause-reacts
returns-then-not-is_replica-clause-reacts c =
    let here = here_of c.args.here.now in
    nothing here.tenant (push_if_settled here c.args.to) c.args.self.now c.args.outbox.now.items
    (pushes_elsewhere here (local_of here.tenant c.args.self.now) c.args.to (sym c.is_replica.ensures ∙ c.if-not-is_replica.true))

pub returns-then-not-is_settled-clause-reacts : goal.returns-then-not-is_settled-clause-reacts
returns-then-not-is_settled-clause-reacts c =
    let here = here_of c.args.here.now in
    nothing here.tenant (push_if_settled here c.args.to) c.args.self.now c.args.outbox.now.items
    (pushes_unsettled here (local_of here.tenant c.args.self.now) c.args.to (sym c.is_replica.ensures ∙ c.if-not-is_replica.false) (sym c.is_settled.ensures ∙ c.if-not-is_settled.true))

pub returns-then-not-holds_any-clause-reacts : goal.returns-then-not-holds_any-clause-reacts
returns-then-not-holds_any-clause-reacts c =
    let here = here_of c.args.here.now in
    nothing here.tenant (push_if_settled here c.args.to) c.args.self.now c.args.outbox.now.items
    (pushes_empty here (local_of here.tenant c.args.self.now) c.args.to (sym c.is_replica.ensures ∙ c.if-not-is_replica.false) (sym c.is_settled.ensures ∙ c.if-not-is_settled.false)
    (sym c.holds_any.ensures ∙ c.if-not-holds_any.true))

pub returns-clause-reacts : goal.returns-clause-reacts
returns-clause-reacts c =
    let here = here_of c.args.here.now in
    on_ok_weaker c.begin_push.result
    (reacts_from here.tenant (begin_push here c.args.to) (push_if_settled here c.args.to) c.args.self.now
    (pushes_holding here (local_of here.tenant c.args.self.now) c.args.to (sym c.is_replica.ensures ∙ c.if-not-is_replica.false) (sym c.is_settled.ensures ∙ c.if-not-is_settled.false)
    (sym c.holds_any.ensures ∙ c.if-not-holds_any.false))
    c.begin_push.new.self c.args.outbox.now.items c.begin_push.new.outbox.items)
    c.begin_push.ensures.reacts

pub returns-clause-fault : goal.returns-clause-fault
returns-clause-fault c =
    let here = here_of c.args.here.now in
    IfErr-weaker c.begin_push.result _ _
    (stops_from here.tenant (begin_push here c.args.to) (push_if_settled here c.args.to) c.args.self.now
    (pushes_holding here (local_of here.tenant c.args.self.now) c.args.to (sym c.is_replica.ensures ∙ c.if-not-is_replica.false) (sym c.is_settled.ensures ∙ c.if-not-is_settled.false)
    (sym c.holds_any.ensures ∙ c.if-not-holds_any.false)))
    c.begin_push.ensures.fault
