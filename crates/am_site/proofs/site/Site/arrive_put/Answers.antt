use Rattle.std.proofs.Common.{ap, is_some, sym, ◌∙◌, ◌||◌}
use Rattle.std.proofs.lemmas.Result.{err_from_is_err_and}
use Rattle.am_cluster.specs.Arriving.{take_put}
use Rattle.am_cluster.specs.Local.{Local}
use Rattle.am_context.proofs.Changes.{own}
use Rattle.am_transfer.specs.Settling.{Settling}
use Rattle.am_site.specs.Here.{here_of}
use Rattle.am_site.specs.Locals.{local_of}
use Rattle.am_site.proofs.Arrived.{is_in_order, position_keeps, put_held, put_settling, put_sinces, still_stored, still_there, stops_put_moving, stops_putting, then_moves}
use Rattle.am_site.proofs.InOrder.{made_sound}
use Rattle.am_site.proofs.SoundSettling.{take_put_sound}
use Rattle.am_site.proofs.site.Site.arrive_put.Goals as goal

pub returns-clause-moves : goal.returns-clause-moves
returns-clause-moves g c =
    let given = c.args.here.now in
    let put = c.args.put.now in
    let s = given.tenant.now in
    then_moves s (take_put (here_of given) put.from put.operation put.items.now) c.args.self.now c.take_put.new.self c.take_position.new.self
    c.args.outbox.now.items c.take_put.new.outbox.items c.in_ok-take_put.ensures.reacts c.in_ok-take_position.ensures.stays
    (position_keeps s c.take_put.new.self c.take_position.new.self c.in_ok-take_position.ensures.others c.take_position.ensures.operations c.take_position.ensures.settling)

pub returns-clause-order : goal.returns-clause-order
returns-clause-order g c =
    let given = c.args.here.now in
    let put = c.args.put.now in
    let s = given.tenant.now in
    let old = local_of s c.args.self.now in
    is_in_order (here_of given) c.args.self.now c.take_put.new.self c.take_position.new.self c.requires.order c.in_ok-take_put.ensures.reacts.keeps
    (λ asks. sym (ap (λ (l : Local). is_some l.settling.asked_at) (own s _ _ _ (c.in_ok-take_put.ensures.reacts.local s))
    ∙ ap (λ (x : Settling). is_some x.asked_at) (put_settling (here_of given) put.from put.operation put.items.now old)) ∙ asks)
    (made_sound (here_of given) (take_put (here_of given) put.from put.operation put.items.now) c.args.self.now c.take_put.new.self
    (take_put_sound (here_of given) put.from put.operation put.items.now) c.in_ok-take_put.ensures.reacts.local c.requires.order.sound)
    (c.in_ok-take_position.ensures.stays s) c.take_position.ensures.settling c.in_ok-take_position.ensures.position

pub returns-in_err-take_position-clause-fault : goal.returns-in_err-take_position-clause-fault
returns-in_err-take_position-clause-fault g c =
    let given = c.args.here.now in
    let put = c.args.put.now in
    let s = given.tenant.now in
    let here = here_of given in
    let from = put.from in
    let old = local_of s c.args.self.now in
    let made = own s _ _ _ (c.in_ok-take_put.ensures.reacts.local s) in
    let p = err_from_is_err_and c.from_residual-in_err-take_position.result c.from_residual-in_err-take_position.ensures.1 in
    rw (p.1, p.2)
    (stops_put_moving c.take_position.new.cache.refused given put.from put.operation put.items.now c.args.self.now c.take_put.new.self c.in_err-take_position.field-0.0
    (stops_putting c.take_position.new.cache.refused given put.items.now c.args.self.now c.take_put.new.self c.requires.order
    (still_there here c.args.self.now c.take_put.new.self c.in_ok-take_put.ensures.reacts.keeps
    (ap (λ (l : Local). here.stayed || l.settling.has_settled) made ∙ ap (λ (s : Settling). here.stayed || s.has_settled) (put_settling here from put.operation put.items.now old)))
    (ap (λ (l : Local). l.sinces) made ∙ put_sinces here from put.operation put.items.now old)
    (ap (λ (l : Local). l.held) made ∙ put_held here from put.operation put.items.now old))
    c.in_err-take_position.ensures.fault)

pub returns-clause-stores : goal.returns-clause-stores
returns-clause-stores g c clean stored =
    still_stored c.take_put.new.self c.take_position.new.self _ c.in_ok-take_position.ensures.stays (c.in_ok-take_put.ensures.stores clean stored)
