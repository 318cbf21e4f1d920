use Rattle.std.proofs.lemmas.Result.{IfErr-weaker, err_from_is_err_and, on_ok_weaker}
use Rattle.am_site.specs.Locals.{local_of}
use Rattle.am_site.proofs.Arrived.{position_keeps}
use Rattle.am_site.proofs.Entered.{entered_in_order, goes_on, held_on, stops_moving_on, stops_sending}
use Rattle.am_site.proofs.site.Site.go_on.Goals as goal

pub returns-clause-moves : goal.returns-clause-moves
unfolding local_of
returns-clause-moves c =
    let given = c.args.here.now in
    let moved = c.in_ok-take_position.ensures in
    on_ok_weaker c.push_or_ask.result
    (λ sent. goes_on given c.args.before.now c.args.self.now c.changed.new.self c.in_ok-receivers.ensures.each c.in_ok-receivers.ensures.timed c.take_position.new.self moved.stays
    (position_keeps given.tenant.now _ c.take_position.new.self moved.others c.take_position.ensures.operations c.take_position.ensures.settling)
    c.push_or_ask.new.self c.args.outbox.now.items c.push_or_ask.new.outbox.items
    (rw (c.as_slice-2.ensures.value, c.in_ok-receivers.ensures.receivers, c.as_slice.ensures.value, c.in_ok-others.ensures) at sent))
    c.push_or_ask.ensures.reacts

pub returns-clause-order : goal.returns-clause-order
returns-clause-order c was sound =
    let given = c.args.here.now in
    let moved = c.in_ok-take_position.ensures in
    c.push_or_ask.ensures.order
    (entered_in_order given c.args.before.now c.args.self.now c.changed.new.self c.in_ok-receivers.ensures.each c.in_ok-receivers.ensures.timed c.take_position.new.self moved.stays
    (position_keeps given.tenant.now _ c.take_position.new.self moved.others c.take_position.ensures.operations c.take_position.ensures.settling)
    was sound moved.position)

pub returns-clause-fault : goal.returns-clause-fault
unfolding local_of
returns-clause-fault c =
    let given = c.args.here.now in
    let moved = c.in_ok-take_position.ensures in
    IfErr-weaker c.push_or_ask.result _ _
    (λ fault stops. stops_sending given c.args.before.now c.args.self.now c.changed.new.self c.in_ok-receivers.ensures.each c.in_ok-receivers.ensures.timed c.take_position.new.self moved.stays
    (position_keeps given.tenant.now _ c.take_position.new.self moved.others c.take_position.ensures.operations c.take_position.ensures.settling)
    c.take_position.new.cache.refused c.args.outbox.now.items fault
    (rw (c.as_slice-2.ensures.value, c.in_ok-receivers.ensures.receivers, c.as_slice.ensures.value, c.in_ok-others.ensures) at stops))
    c.push_or_ask.ensures.fault

pub returns-in_err-take_position-clause-fault : goal.returns-in_err-take_position-clause-fault
returns-in_err-take_position-clause-fault c =
    let p = err_from_is_err_and c.from_residual-in_err-take_position.result c.from_residual-in_err-take_position.ensures.1 in
    rw (p.1, p.2)
    (stops_moving_on c.args.here.now c.args.before.now c.args.self.now c.changed.new.self c.in_ok-receivers.ensures.each c.in_ok-receivers.ensures.timed
    c.take_position.new.cache.refused c.in_err-take_position.field-0.0 c.in_err-take_position.ensures.fault)

pub returns-clause-held : goal.returns-clause-held
returns-clause-held c =
    let given = c.args.here.now in
    let moved = c.in_ok-take_position.ensures in
    on_ok_weaker c.push_or_ask.result
    (λ _. held_on given c.args.before.now c.args.self.now c.changed.new.self c.in_ok-receivers.ensures.each c.in_ok-receivers.ensures.timed c.take_position.new.self moved.stays
    (position_keeps given.tenant.now _ c.take_position.new.self moved.others c.take_position.ensures.operations c.take_position.ensures.settling)
    c.push_or_ask.new.self c.push_or_ask.ensures.node)
    c.push_or_ask.ensures.reacts
