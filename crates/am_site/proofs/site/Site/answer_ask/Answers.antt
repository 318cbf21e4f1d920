use Rattle.std.proofs.Common.{refl, sym, ◌∙◌}
use Rattle.std.proofs.lemmas.Result.{IfErr-weaker, on_ok_weaker}
use Rattle.am_cluster.specs.Reactions.{each}
use Rattle.am_cluster.specs.Transfers.{answer_ask, send_piece}
use Rattle.am_transfer.specs.Progress.{on}
use Rattle.am_transfer.specs.Settling.{answered}
use Rattle.am_site.specs.Here.{here_of}
use Rattle.am_site.specs.Locals.{local_of}
use Rattle.am_site.proofs.Reacting.{nothing}
use Rattle.am_site.proofs.Settled.{answer_as, answers_none, settled_sends, settled_stops}
use Rattle.am_site.proofs.Quiet.{answer_ask_quiet, quiet_in_order}
use Rattle.am_site.proofs.SoundSettling.{answer_ask_sound}
use Rattle.am_site.proofs.site.Site.answer_ask.Goals as goal

pub returns-then-not-is_settled-clause-reacts : goal.returns-then-not-is_settled-clause-reacts
returns-then-not-is_settled-clause-reacts c =
    let s = c.args.here.now.tenant.now in
    let here = here_of c.args.here.now in
    nothing s (answer_ask here c.args.asker.now) c.args.self.now c.args.outbox.now.items
    (answers_none here c.args.asker.now (local_of s c.args.self.now) (sym c.is_settled.ensures ∙ c.if-not-is_settled.true))

pub returns-clause-reacts : goal.returns-clause-reacts
unfolding local_of
returns-clause-reacts c =
    let s = c.args.here.now.tenant.now in
    let here = here_of c.args.here.now in
    let held = c.held-held.result.now in
    let change = answered c.args.asker.now held in
    on_ok_weaker c.send_pieces.result
    (λ sent. settled_sends s change (on change) c.args.self.now c.asked.new.self (λ p. refl) c.in_ok-pieces.ensures.each c.in_ok-pieces.ensures.timed (λ p. refl)
    (each (send_piece here c.args.asker.now) c.in_ok-pieces.pieces.items) (answer_ask here c.args.asker.now)
    (rw c.in_ok-pieces.ensures.pieces (answer_as here c.args.asker.now held (local_of s c.args.self.now) c.held-held.ensures.held
    (sym c.is_settled.ensures ∙ c.if-not-is_settled.false)))
    c.args.outbox.now.items c.send_pieces.new.self c.send_pieces.new.outbox.items (rw c.as_slice.ensures.value at sent))
    c.send_pieces.ensures.reacts

pub returns-clause-fault : goal.returns-clause-fault
unfolding local_of
returns-clause-fault c =
    let s = c.args.here.now.tenant.now in
    let here = here_of c.args.here.now in
    let held = c.held-held.result.now in
    let change = answered c.args.asker.now held in
    IfErr-weaker c.send_pieces.result _ _
    (λ fault stops. settled_stops s change (on change) c.args.self.now c.asked.new.self (λ p. refl) c.in_ok-pieces.ensures.each c.in_ok-pieces.ensures.timed (λ p. refl)
    (each (send_piece here c.args.asker.now) c.in_ok-pieces.pieces.items) (answer_ask here c.args.asker.now)
    (rw c.in_ok-pieces.ensures.pieces (answer_as here c.args.asker.now held (local_of s c.args.self.now) c.held-held.ensures.held
    (sym c.is_settled.ensures ∙ c.if-not-is_settled.false)))
    c.args.outbox.now.items fault (rw c.as_slice.ensures.value at stops))
    c.send_pieces.ensures.fault

pub returns-clause-order : goal.returns-clause-order
returns-clause-order c order =
    let here = here_of c.args.here.now in
    on_ok_weaker c.send_pieces.result
    (λ reacts. quiet_in_order here (answer_ask here c.args.asker.now) c.args.self.now c.send_pieces.new.self c.args.outbox.now.items c.send_pieces.new.outbox.items (answer_ask_quiet here c.args.asker.now) (answer_ask_sound here c.args.asker.now) reacts order)
    (returns-clause-reacts c)
