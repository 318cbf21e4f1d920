use Rattle.std.proofs.Common.{ap, sym, ◌∙◌}
use Rattle.std.proofs.lemmas.Result.{IfErr-weaker, on_ok_weaker}
use Rattle.am_cluster.specs.Here.{others}
use Rattle.am_cluster.specs.Messages.{Ask}
use Rattle.am_cluster.specs.Reactions.{◌>>◌}
use Rattle.am_cluster.specs.Sending.{send_all}
use Rattle.am_cluster.specs.Transfers.{asks_first}
use Rattle.am_context.proofs.Changes.{own}
use Rattle.am_transfer.specs.Progress.{first_asked, to_ask}
use Rattle.am_transfer.specs.Tenants.{progress_of}
use Rattle.am_transfer.specs.Timers.{Room}
use Rattle.am_site.specs.Here.{here_of}
use Rattle.am_site.specs.Locals.{local_of}
use Rattle.am_site.proofs.Reacting.{nothing, stops_from}
use Rattle.am_site.proofs.InOrder.{asks_in_order, made_sound}
use Rattle.am_site.proofs.SoundSettling.{asks_first_sound}
use Rattle.am_site.proofs.Moving.{in_turn_moves, moves, moves_from, stops_after}
use Rattle.am_site.proofs.Settled.{asks_as, asks_no_more, asks_nobody, first_asks, first_settling, settles, settling_moves, with_room}
use Rattle.am_site.proofs.site.Site.ask_first.Goals as goal

pub returns-then-not-is_replica-clause-reacts : goal.returns-then-not-is_replica-clause-reacts
returns-then-not-is_replica-clause-reacts c =
    let s = c.args.here.now.tenant.now in
    let here = here_of c.args.here.now in
    moves s (asks_first here) c.args.self.now c.args.self.now c.args.outbox.now.items c.args.outbox.now.items (nothing s (asks_first here) c.args.self.now c.args.outbox.now.items (asks_nobody here (local_of s c.args.self.now) (sym c.is_replica.ensures ∙ c.if-not-is_replica.true)))

pub returns-then-is_settled-clause-reacts : goal.returns-then-is_settled-clause-reacts
returns-then-is_settled-clause-reacts c =
    let s = c.args.here.now.tenant.now in
    let here = here_of c.args.here.now in
    moves s (asks_first here) c.args.self.now c.args.self.now c.args.outbox.now.items c.args.outbox.now.items (nothing s (asks_first here) c.args.self.now c.args.outbox.now.items (asks_no_more here (local_of s c.args.self.now) (sym c.is_settled.ensures ∙ c.if-is_settled.true)))

pub returns-clause-reacts : goal.returns-clause-reacts
unfolding local_of
returns-clause-reacts c =
    let s = c.args.here.now.tenant.now in
    let here = here_of c.args.here.now in
    let l = local_of s c.args.self.now in
    let sends = send_all here.epoch here (to_ask (others here) l.settling) (Ask here.incarnation) in
    let x = c.args.outbox.now.items in
    on_ok_weaker c.send_all.result
    (λ sent. moves_from s (settles (first_asks here) >> sends) (asks_first here) c.args.self.now
    (asks_as here l (sym c.is_replica.ensures ∙ c.if-not-is_replica.false) (sym c.is_settled.ensures ∙ c.if-is_settled.false))
    c.send_all.new.self x c.send_all.new.outbox.items
    (in_turn_moves s (settles (first_asks here)) sends c.args.self.now (with_room c.args.self.now c.ask.new.self) x x
    (settling_moves s (first_asks here) (first_asked here.moment (others here)) c.args.self.now c.ask.new.self (first_settling here)
    (rw (c.as_slice.ensures.value, c.in_ok-others.ensures) at c.in_ok-receivers.ensures.each) c.in_ok-receivers.ensures.timed x)
    c.send_all.new.self c.send_all.new.outbox.items
    (moves s sends (with_room c.args.self.now c.ask.new.self) c.send_all.new.self x c.send_all.new.outbox.items
    (rw (c.as_slice-2.ensures.value, c.in_ok-receivers.ensures.receivers, c.as_slice.ensures.value, c.in_ok-others.ensures) at sent))))
    c.send_all.ensures.reacts

pub returns-clause-fault : goal.returns-clause-fault
unfolding local_of
returns-clause-fault c =
    let s = c.args.here.now.tenant.now in
    let here = here_of c.args.here.now in
    let l = local_of s c.args.self.now in
    let sends = send_all here.epoch here (to_ask (others here) l.settling) (Ask here.incarnation) in
    let x = c.args.outbox.now.items in
    IfErr-weaker c.send_all.result _ _
    (λ fault stops. stops_from s (settles (first_asks here) >> sends) (asks_first here) c.args.self.now
    (asks_as here l (sym c.is_replica.ensures ∙ c.if-not-is_replica.false) (sym c.is_settled.ensures ∙ c.if-is_settled.false)) fault
    (stops_after s (settles (first_asks here)) sends c.args.self.now (with_room c.args.self.now c.ask.new.self) x x
    (settling_moves s (first_asks here) (first_asked here.moment (others here)) c.args.self.now c.ask.new.self (first_settling here)
    (rw (c.as_slice.ensures.value, c.in_ok-others.ensures) at c.in_ok-receivers.ensures.each) c.in_ok-receivers.ensures.timed x)
    fault
    (rw (c.as_slice-2.ensures.value, c.in_ok-receivers.ensures.receivers, c.as_slice.ensures.value, c.in_ok-others.ensures) at stops)))
    c.send_all.ensures.fault

pub returns-clause-order : goal.returns-clause-order
returns-clause-order c order =
    let s = c.args.here.now.tenant.now in
    let here = here_of c.args.here.now in
    on_ok_weaker c.send_all.result
    (λ moves. asks_in_order here c.args.self.now c.send_all.new.self c.send_all.ensures.node
    (ap (λ (room : Room). progress_of s room.progress) c.send_all.ensures.settling
    ∙ own s _ _ _ (rw (c.as_slice.ensures.value, c.in_ok-others.ensures) at (c.in_ok-receivers.ensures.each s)))
    (made_sound here (asks_first here) c.args.self.now c.send_all.new.self (asks_first_sound here) moves.local order.sound) order)
    (returns-clause-reacts c)
