use Rattle.std.proofs.Common.{sym, ◌∙◌}
use Rattle.std.proofs.lemmas.Result.{IfErr-weaker, on_ok_weaker}
use Rattle.am_cluster.specs.Arriving.{answer_get}
use Rattle.am_cluster.specs.Messages.{Answer}
use Rattle.am_cluster.specs.Sending.{send_in}
use Rattle.am_site.specs.Here.{here_of}
use Rattle.am_site.specs.Locals.{local_of}
use Rattle.am_site.proofs.Answers.{answers, answers_not}
use Rattle.am_site.proofs.Reacting.{nothing, reacts_from, stops_from}
use Rattle.am_site.proofs.Quiet.{got_quiet, quiet_in_order}
use Rattle.am_site.proofs.SoundSettling.{answer_get_sound}
use Rattle.am_site.proofs.site.Site.answer_get.Goals as goal

pub returns-then-not-is_settled-clause-reacts : goal.returns-then-not-is_settled-clause-reacts
unfolding local_of
returns-then-not-is_settled-clause-reacts c =
    let s = c.args.here.now.tenant.now in
    let here = here_of c.args.here.now in
    let asker = c.args.asker.now in
    nothing s (answer_get here asker c.args.operation) c.args.self.now c.args.outbox.now.items
    (answers_not here asker c.args.operation (local_of s c.args.self.now) (sym c.is_settled.ensures ∙ c.if-not-is_settled.true))

pub returns-clause-reacts : goal.returns-clause-reacts
unfolding local_of
returns-clause-reacts c =
    let s = c.args.here.now.tenant.now in
    let here = here_of c.args.here.now in
    let asker = c.args.asker.now in
    on_ok_weaker c.send_in.result
    (λ reacts. reacts_from s (send_in here.epoch here asker.instance (Answer c.args.operation asker.incarnation c.in_ok-items.items)) (answer_get here asker c.args.operation)
    c.args.self.now
    (answers here asker c.args.operation c.in_ok-items.items (local_of s c.args.self.now) (sym c.is_settled.ensures ∙ c.if-not-is_settled.false) c.in_ok-items.ensures)
    c.send_in.new.self c.args.outbox.now.items c.send_in.new.outbox.items reacts)
    c.send_in.ensures.reacts

pub returns-clause-fault : goal.returns-clause-fault
unfolding local_of
returns-clause-fault c =
    let s = c.args.here.now.tenant.now in
    let here = here_of c.args.here.now in
    let asker = c.args.asker.now in
    IfErr-weaker c.send_in.result _ _
    (λ fault stops. stops_from s (send_in here.epoch here asker.instance (Answer c.args.operation asker.incarnation c.in_ok-items.items)) (answer_get here asker c.args.operation)
    c.args.self.now
    (answers here asker c.args.operation c.in_ok-items.items (local_of s c.args.self.now) (sym c.is_settled.ensures ∙ c.if-not-is_settled.false) c.in_ok-items.ensures) fault stops)
    c.send_in.ensures.fault

pub returns-clause-order : goal.returns-clause-order
returns-clause-order c order =
    let here = here_of c.args.here.now in
    on_ok_weaker c.send_in.result
    (λ reacts. quiet_in_order here (answer_get here c.args.asker.now c.args.operation) c.args.self.now c.send_in.new.self c.args.outbox.now.items c.send_in.new.outbox.items (got_quiet here c.args.asker.now c.args.operation) (answer_get_sound here c.args.asker.now c.args.operation) reacts order)
    (returns-clause-reacts c)
