use Rattle.std.proofs.Common.{sym, ◌∙◌}
use Rattle.std.proofs.lemmas.Result.{err_from_is_err_and}
use Rattle.am_site.specs.Here.{here_of}
use Rattle.am_site.specs.Locals.{local_of}
use Rattle.am_site.proofs.Arrived.{position_keeps}
use Rattle.am_site.proofs.Forced.{forced_already, forced_elsewhere, forced_in_order, forces_nothing, forces_silently, stops_forcing}
use Rattle.am_site.proofs.site.Site.force.Goals as goal

pub returns-then-not-is_replica-clause-moves : goal.returns-then-not-is_replica-clause-moves
returns-then-not-is_replica-clause-moves c =
    let here = here_of c.args.here.now in
    forces_nothing here c.args.self.now (forced_elsewhere here (local_of here.tenant c.args.self.now) (sym c.is_replica.ensures ∙ c.if-not-is_replica.true))

pub returns-then-is_settled-clause-moves : goal.returns-then-is_settled-clause-moves
returns-then-is_settled-clause-moves c =
    let here = here_of c.args.here.now in
    forces_nothing here c.args.self.now (forced_already here (local_of here.tenant c.args.self.now) (sym c.is_settled.ensures ∙ c.if-is_settled.true))

pub returns-clause-moves : goal.returns-clause-moves
returns-clause-moves c =
    let given = c.args.here.now in
    let moved = c.in_ok-take_position.ensures in
    forces_silently given c.args.self.now c.forced.new.self (sym c.is_replica.ensures ∙ c.if-not-is_replica.false) (sym c.is_settled.ensures ∙ c.if-is_settled.false)
    c.in_ok-forced.ensures.each c.in_ok-forced.ensures.timed c.take_position.new.self moved.stays
    (position_keeps given.tenant.now _ c.take_position.new.self moved.others c.take_position.ensures.operations c.take_position.ensures.settling)

pub returns-clause-order : goal.returns-clause-order
returns-clause-order c order =
    forced_in_order c.args.here.now c.args.self.now c.forced.new.self (sym c.is_replica.ensures ∙ c.if-not-is_replica.false) (sym c.is_settled.ensures ∙ c.if-is_settled.false)
    c.in_ok-forced.ensures.each c.in_ok-forced.ensures.timed c.take_position.new.self (returns-clause-moves c) c.in_ok-take_position.ensures.position order

pub returns-in_err-take_position-clause-fault : goal.returns-in_err-take_position-clause-fault
returns-in_err-take_position-clause-fault c =
    let p = err_from_is_err_and c.from_residual-in_err-take_position.result c.from_residual-in_err-take_position.ensures.1 in
    rw (p.1, p.2)
    (stops_forcing c.args.here.now c.args.self.now c.forced.new.self (sym c.is_replica.ensures ∙ c.if-not-is_replica.false) (sym c.is_settled.ensures ∙ c.if-is_settled.false)
    c.in_ok-forced.ensures.each c.in_ok-forced.ensures.timed c.take_position.new.cache.refused c.in_err-take_position.field-0.0 c.in_err-take_position.ensures.fault)
