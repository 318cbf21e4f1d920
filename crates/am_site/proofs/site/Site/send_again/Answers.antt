use Rattle.std.proofs.Common.{ap, refl, sym, ◌∙◌}
use Rattle.std.proofs.lemmas.Result.{IfErr-weaker, on_ok_weaker}
use Rattle.am_cluster.specs.Ticking.{send_again}
use Rattle.am_context.proofs.Changes.{own}
use Rattle.am_transfer.specs.Peers.{at_number}
use Rattle.am_transfer.specs.Tenants.{progress_of}
use Rattle.am_transfer.specs.Timers.{Room}
use Rattle.am_site.specs.Here.{here_of}
use Rattle.am_site.specs.Locals.{local_of}
use Rattle.am_site.proofs.InOrder.{made_sound}
use Rattle.am_site.proofs.SentAgain.{again_in_order, ask_done, ask_stops, nothing_done, state_done, state_stops}
use Rattle.am_site.proofs.Settled.{with_room}
use Rattle.am_site.proofs.SoundSettling.{send_again_sound}
use Rattle.am_site.proofs.site.Site.send_again.Goals as goal

pub returns-in-State-clause-reacts : goal.returns-in-State-clause-reacts
unfolding local_of
returns-in-State-clause-reacts c =
    let s = c.args.here.now.tenant.now in
    let here = here_of c.args.here.now in
    let held = c.held-held.result.now in
    on_ok_weaker c.send_pieces.result
    (λ sent. state_done s here c.args.to held c.args.self.now c.tick.new.self c.requires.asked c.held-held.ensures.held
    c.in_ok-again.ensures.each c.in_ok-again.ensures.timed c.in-State.incarnation c.in-State.pieces
    (sym c.in-State.is ∙ c.in_ok-again.ensures.again)
    c.send_pieces.new.self c.args.outbox.now.items c.send_pieces.new.outbox.items (rw c.as_slice.ensures at sent))
    c.send_pieces.ensures.reacts

pub returns-in-State-clause-fault : goal.returns-in-State-clause-fault
unfolding local_of
returns-in-State-clause-fault c =
    let s = c.args.here.now.tenant.now in
    let here = here_of c.args.here.now in
    let held = c.held-held.result.now in
    IfErr-weaker c.send_pieces.result _ _
    (λ fault stops. state_stops s here c.args.to held c.args.self.now c.tick.new.self c.requires.asked c.held-held.ensures.held
    c.in_ok-again.ensures.each c.in_ok-again.ensures.timed c.in-State.incarnation c.in-State.pieces
    (sym c.in-State.is ∙ c.in_ok-again.ensures.again)
    c.args.outbox.now.items fault (rw c.as_slice.ensures at stops))
    c.send_pieces.ensures.fault

pub returns-in-State-clause-order : goal.returns-in-State-clause-order
returns-in-State-clause-order c =
    let s = c.args.here.now.tenant.now in
    let here = here_of c.args.here.now in
    on_ok_weaker c.send_pieces.result
    (λ reacts. again_in_order here c.args.to c.held-held.result.now c.args.self.now c.send_pieces.new.self c.send_pieces.ensures.node
    (ap (λ (room : Room). progress_of s room.progress) c.send_pieces.ensures.settling ∙ own s _ _ _ (c.in_ok-again.ensures.each s))
    (made_sound here (λ l. send_again here c.args.to (at_number c.args.to l.settling.pushes) l) c.args.self.now c.send_pieces.new.self (send_again_sound here c.args.to) reacts.local c.requires.sound) c.requires)
    (returns-in-State-clause-reacts c)

pub returns-in-Ask-clause-reacts : goal.returns-in-Ask-clause-reacts
unfolding local_of
returns-in-Ask-clause-reacts c =
    let s = c.args.here.now.tenant.now in
    let here = here_of c.args.here.now in
    let held = c.held-held.result.now in
    on_ok_weaker c.send_in.result
    (λ sent. ask_done s here c.args.to held c.args.self.now c.tick.new.self c.requires.asked c.held-held.ensures.held
    c.in_ok-again.ensures.each c.in_ok-again.ensures.timed
    (sym c.in-Ask.is ∙ c.in_ok-again.ensures.again)
    c.send_in.new.self c.args.outbox.now.items c.send_in.new.outbox.items sent)
    c.send_in.ensures.reacts

pub returns-in-Ask-clause-fault : goal.returns-in-Ask-clause-fault
unfolding local_of
returns-in-Ask-clause-fault c =
    let s = c.args.here.now.tenant.now in
    let here = here_of c.args.here.now in
    let held = c.held-held.result.now in
    IfErr-weaker c.send_in.result _ _
    (λ fault stops. ask_stops s here c.args.to held c.args.self.now c.tick.new.self c.requires.asked c.held-held.ensures.held
    c.in_ok-again.ensures.each c.in_ok-again.ensures.timed
    (sym c.in-Ask.is ∙ c.in_ok-again.ensures.again)
    c.args.outbox.now.items fault stops)
    c.send_in.ensures.fault

pub returns-in-Ask-clause-order : goal.returns-in-Ask-clause-order
returns-in-Ask-clause-order c =
    let s = c.args.here.now.tenant.now in
    let here = here_of c.args.here.now in
    on_ok_weaker c.send_in.result
    (λ reacts. again_in_order here c.args.to c.held-held.result.now c.args.self.now c.send_in.new.self c.send_in.ensures.node
    (ap (λ (room : Room). progress_of s room.progress) c.send_in.ensures.settling ∙ own s _ _ _ (c.in_ok-again.ensures.each s))
    (made_sound here (λ l. send_again here c.args.to (at_number c.args.to l.settling.pushes) l) c.args.self.now c.send_in.new.self (send_again_sound here c.args.to) reacts.local c.requires.sound) c.requires)
    (returns-in-Ask-clause-reacts c)

pub returns-in-Nothing-clause-reacts : goal.returns-in-Nothing-clause-reacts
unfolding local_of
returns-in-Nothing-clause-reacts c =
    let s = c.args.here.now.tenant.now in
    let here = here_of c.args.here.now in
    let held = c.held-held.result.now in
    nothing_done s here c.args.to held c.args.self.now c.tick.new.self c.requires.asked c.held-held.ensures.held
    c.in_ok-again.ensures.each c.in_ok-again.ensures.timed
    (sym c.in-Nothing.is ∙ c.in_ok-again.ensures.again) c.args.outbox.now.items

pub returns-in-Nothing-clause-order : goal.returns-in-Nothing-clause-order
returns-in-Nothing-clause-order c =
    let s = c.args.here.now.tenant.now in
    let here = here_of c.args.here.now in
    again_in_order here c.args.to c.held-held.result.now c.args.self.now (with_room c.args.self.now c.tick.new.self) refl
    (own s _ _ _ (c.in_ok-again.ensures.each s))
    (made_sound here (λ l. send_again here c.args.to (at_number c.args.to l.settling.pushes) l) c.args.self.now (with_room c.args.self.now c.tick.new.self) (send_again_sound here c.args.to)
    (returns-in-Nothing-clause-reacts c).local c.requires.sound) c.requires
