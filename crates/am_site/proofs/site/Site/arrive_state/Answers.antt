use Rattle.std.proofs.Common.{ap, is_some, refl, sym, ◌∙◌}
use Rattle.std.proofs.lemmas.Result.{err_from_is_err_and}
use Rattle.am_cluster.specs.Local.{Local, is_settled}
use Rattle.am_cluster.specs.Transfers.{take_state}
use Rattle.am_context.proofs.Changes.{own}
use Rattle.am_site.specs.Here.{here_of}
use Rattle.am_site.specs.Locals.{local_of}
use Rattle.am_site.proofs.Arrived.{is_in_order, position_keeps, settles_unanswered, state_asked, state_held, state_sinces, still_stored, still_there, stops_before_moving, stops_putting, stops_state_moving, then_moves}
use Rattle.am_site.proofs.InOrder.{made_sound}
use Rattle.am_site.proofs.SoundSettling.{take_state_sound}
use Rattle.am_site.proofs.site.Site.arrive_state.Goals as goal

pub returns-clause-moves : goal.returns-clause-moves
returns-clause-moves g c =
    let given = c.args.here.now in
    let piece = c.args.piece.now in
    then_moves given.tenant.now (take_state (here_of given) piece.from piece.place piece.is_last piece.items.now) c.args.self.now c.take_state.new.self c.take_position.new.self
    c.args.outbox.now.items c.take_state.new.outbox.items c.in_ok-take_state.ensures.reacts c.in_ok-take_position.ensures.stays
    (position_keeps given.tenant.now c.take_state.new.self c.take_position.new.self c.in_ok-take_position.ensures.others c.take_position.ensures.operations c.take_position.ensures.settling)

pub returns-clause-order : goal.returns-clause-order
returns-clause-order g c =
    let given = c.args.here.now in
    let piece = c.args.piece.now in
    let s = given.tenant.now in
    is_in_order (here_of given) c.args.self.now c.take_state.new.self c.take_position.new.self c.requires.order c.in_ok-take_state.ensures.reacts.keeps
    (λ asks. state_asked (here_of given) piece.from piece.place piece.is_last piece.items.now (local_of s c.args.self.now)
    (sym (ap (λ (l : Local). is_some l.settling.asked_at) (own s _ _ _ (c.in_ok-take_state.ensures.reacts.local s))) ∙ asks))
    (made_sound (here_of given) (take_state (here_of given) piece.from piece.place piece.is_last piece.items.now) c.args.self.now c.take_state.new.self
    (take_state_sound (here_of given) piece.from piece.place piece.is_last piece.items.now) c.in_ok-take_state.ensures.reacts.local c.requires.order.sound)
    (c.in_ok-take_position.ensures.stays s) c.take_position.ensures.settling c.in_ok-take_position.ensures.position

pub returns-in_err-take_position-clause-fault : goal.returns-in_err-take_position-clause-fault
returns-in_err-take_position-clause-fault g c =
    let given = c.args.here.now in
    let piece = c.args.piece.now in
    let s = given.tenant.now in
    let here = here_of given in
    let old = local_of s c.args.self.now in
    let made = own s _ _ _ (c.in_ok-take_state.ensures.reacts.local s) in
    let refused = c.take_position.new.cache.refused in
    let sinces = ap (λ (l : Local). l.sinces) made ∙ state_sinces here piece.from piece.place piece.is_last piece.items.now old in
    let held = ap (λ (l : Local). l.held) made ∙ state_held here piece.from piece.place piece.is_last piece.items.now old in
    let p = err_from_is_err_and c.from_residual-in_err-take_position.result c.from_residual-in_err-take_position.ensures.1 in
    rw (p.1, p.2)
    (stops_state_moving refused given piece.from piece.place piece.is_last piece.items.now c.args.self.now c.take_state.new.self c.in_err-take_position.field-0.0
    (settles_unanswered refused given piece.from piece.place piece.is_last piece.items.now c.args.self.now c.take_state.new.self
    (is_settled here old) (is_settled here (take_state here piece.from piece.place piece.is_last piece.items.now old).local) refl refl
    (λ same. stops_putting refused given piece.items.now c.args.self.now c.take_state.new.self c.requires.order
    (still_there here c.args.self.now c.take_state.new.self c.in_ok-take_state.ensures.reacts.keeps
    (ap (λ (l : Local). is_settled here l) made ∙ same)) sinces held)
    sinces held)
    c.in_err-take_position.ensures.fault)

pub returns-in_err-take_state-clause-fault : goal.returns-in_err-take_state-clause-fault
returns-in_err-take_state-clause-fault g c =
    let piece = c.args.piece.now in
    let p = err_from_is_err_and c.from_residual.result c.from_residual.ensures.1 in
    rw (p.1, p.2)
    (stops_before_moving c.take_state.new.cache.refused c.args.here.now piece.from piece.place piece.is_last piece.items.now c.args.self.now c.in_err-take_state.field-0.0 c.in_err-take_state.ensures.fault)

pub returns-clause-stores : goal.returns-clause-stores
returns-clause-stores g c clean stored =
    still_stored c.take_state.new.self c.take_position.new.self _ c.in_ok-take_position.ensures.stays (c.in_ok-take_state.ensures.stores clean stored)
