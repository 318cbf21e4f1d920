use Rattle.std.proofs.Common.{sym, ◌∙◌}
use Rattle.std.proofs.lemmas.Result.{IfErr-weaker, on_ok_weaker}
use Rattle.am_cluster.specs.Reactions.{each}
use Rattle.am_cluster.specs.RingChanges.{push_or_ask}
use Rattle.am_cluster.specs.Transfers.{asks_first, begin_push}
use Rattle.am_site.specs.Here.{here_of}
use Rattle.am_site.specs.Locals.{local_of}
use Rattle.am_site.proofs.Entered.{asks_instead, pushes_to_all, sends_nothing}
use Rattle.am_site.proofs.Moving.{moves, moves_from}
use Rattle.am_site.proofs.Quiet.{begins_quiet, each_quiet, quiet_in_order_where}
use Rattle.am_site.proofs.Reacting.{nothing, stops_from}
use Rattle.am_site.proofs.SoundSettling.{begin_push_where, each_where}
use Rattle.am_site.proofs.site.Site.push_or_ask.Goals as goal

pub returns-then-not-holds_any-clause-reacts : goal.returns-then-not-holds_any-clause-reacts
returns-then-not-holds_any-clause-reacts c =
    let here = here_of c.args.here.now in
    let x = c.args.outbox.now.items in
    let react = push_or_ask here c.args.receivers.now in
    moves here.tenant react c.args.self.now c.args.self.now x x
    (nothing here.tenant react c.args.self.now x (sends_nothing here c.args.receivers.now (local_of here.tenant c.args.self.now) (sym c.holds_any.ensures ∙ c.if-not-holds_any.true)))

pub returns-then-not-is_settled-clause-reacts : goal.returns-then-not-is_settled-clause-reacts
returns-then-not-is_settled-clause-reacts c =
    let here = here_of c.args.here.now in
    on_ok_weaker c.ask_first.result
    (moves_from here.tenant (asks_first here) (push_or_ask here c.args.receivers.now) c.args.self.now
    (asks_instead here c.args.receivers.now (local_of here.tenant c.args.self.now) (sym c.holds_any.ensures ∙ c.if-not-holds_any.false) (sym c.is_settled.ensures ∙ c.if-not-is_settled.true))
    c.ask_first.new.self c.args.outbox.now.items c.ask_first.new.outbox.items)
    c.ask_first.ensures.reacts

pub returns-then-not-is_settled-clause-fault : goal.returns-then-not-is_settled-clause-fault
returns-then-not-is_settled-clause-fault c =
    let here = here_of c.args.here.now in
    IfErr-weaker c.ask_first.result _ _
    (stops_from here.tenant (asks_first here) (push_or_ask here c.args.receivers.now) c.args.self.now
    (asks_instead here c.args.receivers.now (local_of here.tenant c.args.self.now) (sym c.holds_any.ensures ∙ c.if-not-holds_any.false) (sym c.is_settled.ensures ∙ c.if-not-is_settled.true)))
    c.ask_first.ensures.fault

pub returns-clause-reacts : goal.returns-clause-reacts
returns-clause-reacts c =
    let here = here_of c.args.here.now in
    let x = c.args.outbox.now.items in
    let y = c.push_all.new.outbox.items in
    let react = each (begin_push here) c.args.receivers.now in
    on_ok_weaker c.push_all.result
    (λ reacts. moves_from here.tenant react (push_or_ask here c.args.receivers.now) c.args.self.now
    (pushes_to_all here c.args.receivers.now (local_of here.tenant c.args.self.now) (sym c.holds_any.ensures ∙ c.if-not-holds_any.false) (sym c.is_settled.ensures ∙ c.if-not-is_settled.false))
    c.push_all.new.self x y (moves here.tenant react c.args.self.now c.push_all.new.self x y reacts))
    c.push_all.ensures.reacts

pub returns-clause-fault : goal.returns-clause-fault
returns-clause-fault c =
    let here = here_of c.args.here.now in
    IfErr-weaker c.push_all.result _ _
    (stops_from here.tenant (each (begin_push here) c.args.receivers.now) (push_or_ask here c.args.receivers.now) c.args.self.now
    (pushes_to_all here c.args.receivers.now (local_of here.tenant c.args.self.now) (sym c.holds_any.ensures ∙ c.if-not-holds_any.false) (sym c.is_settled.ensures ∙ c.if-not-is_settled.false)))
    c.push_all.ensures.fault

pub returns-clause-order : goal.returns-clause-order
returns-clause-order c order =
    let here = here_of c.args.here.now in
    let to = c.args.receivers.now in
    let settled = sym c.is_settled.ensures ∙ c.if-not-is_settled.false in
    on_ok_weaker c.push_all.result
    (λ reacts. quiet_in_order_where here (each (begin_push here) to) c.args.self.now c.push_all.new.self c.args.outbox.now.items c.push_all.new.outbox.items
    (each_quiet (begin_push here) (begins_quiet here) to)
    (λ sound. (each_where here _ (begin_push here) to (begin_push_where here) (local_of here.tenant c.args.self.now) settled sound).1) reacts order)
    c.push_all.ensures.reacts
