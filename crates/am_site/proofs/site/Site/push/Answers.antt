use Rattle.std.proofs.Common.{refl, ◌∙◌}
use Rattle.std.proofs.lemmas.Result.{IfErr-weaker, on_ok_weaker}
use Rattle.am_cluster.specs.Reactions.{each}
use Rattle.am_cluster.specs.Transfers.{push, send_piece}
use Rattle.am_transfer.specs.Progress.{on}
use Rattle.am_transfer.specs.Settling.{pushed}
use Rattle.am_site.specs.Here.{here_of}
use Rattle.am_site.specs.Locals.{local_of}
use Rattle.am_site.proofs.Settled.{push_as, settled_sends, settled_stops}
use Rattle.am_site.proofs.Quiet.{push_quiet, quiet_in_order_where}
use Rattle.am_site.proofs.SoundSettling.{push_where}
use Rattle.am_site.proofs.site.Site.push.Goals as goal

pub returns-clause-reacts : goal.returns-clause-reacts
unfolding local_of
returns-clause-reacts c =
    let s = c.args.here.now.tenant.now in
    let here = here_of c.args.here.now in
    let held = c.held-held.result.now in
    let change = pushed c.args.receiver.now here.moment held in
    on_ok_weaker c.send_pieces.result
    (λ sent. settled_sends s change (on change) c.args.self.now c.push.new.self (λ p. refl) c.in_ok-pieces.ensures.each c.in_ok-pieces.ensures.timed (λ p. refl)
    (each (send_piece here c.args.receiver.now) c.in_ok-pieces.pieces.items) (push here c.args.receiver.now)
    (rw c.in_ok-pieces.ensures.pieces (push_as here c.args.receiver.now held (local_of s c.args.self.now) c.held-held.ensures.held))
    c.args.outbox.now.items c.send_pieces.new.self c.send_pieces.new.outbox.items (rw c.as_slice.ensures.value at sent))
    c.send_pieces.ensures.reacts

pub returns-clause-fault : goal.returns-clause-fault
unfolding local_of
returns-clause-fault c =
    let s = c.args.here.now.tenant.now in
    let here = here_of c.args.here.now in
    let held = c.held-held.result.now in
    let change = pushed c.args.receiver.now here.moment held in
    IfErr-weaker c.send_pieces.result _ _
    (λ fault stops. settled_stops s change (on change) c.args.self.now c.push.new.self (λ p. refl) c.in_ok-pieces.ensures.each c.in_ok-pieces.ensures.timed (λ p. refl)
    (each (send_piece here c.args.receiver.now) c.in_ok-pieces.pieces.items) (push here c.args.receiver.now)
    (rw c.in_ok-pieces.ensures.pieces (push_as here c.args.receiver.now held (local_of s c.args.self.now) c.held-held.ensures.held))
    c.args.outbox.now.items fault (rw c.as_slice.ensures.value at stops))
    c.send_pieces.ensures.fault

pub returns-clause-order : goal.returns-clause-order
returns-clause-order c settled order =
    let here = here_of c.args.here.now in
    on_ok_weaker c.send_pieces.result
    (λ reacts. quiet_in_order_where here (push here c.args.receiver.now) c.args.self.now c.send_pieces.new.self c.args.outbox.now.items c.send_pieces.new.outbox.items (push_quiet here c.args.receiver.now)
    (λ sound. (push_where here c.args.receiver.now (local_of here.tenant c.args.self.now) settled sound).1) reacts order)
    (returns-clause-reacts c)
