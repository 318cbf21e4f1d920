use Rattle.std.proofs.Common.{sym, ◌∙◌}
use Rattle.std.proofs.lemmas.Result.{IfErr-weaker, on_ok_weaker}
use Rattle.am_cluster.specs.RingChanges.{other_restarted}
use Rattle.am_site.specs.Here.{here_of}
use Rattle.am_site.specs.Locals.{local_of}
use Rattle.am_site.proofs.Quiet.{quiet_in_order, restarted_quiet}
use Rattle.am_site.proofs.Reacting.{nothing}
use Rattle.am_site.proofs.Restarted.{restart_reacts, restart_stops, restarts_elsewhere}
use Rattle.am_site.proofs.SoundRing.{other_restarted_sound}
use Rattle.am_site.proofs.site.Site.other_restarted.Goals as goal

pub returns-then-not-is_among-clause-reacts : goal.returns-then-not-is_among-clause-reacts
returns-then-not-is_among-clause-reacts c =
    let here = here_of c.args.here.now in
    nothing here.tenant (other_restarted here c.args.restarted) c.args.self.now c.args.outbox.now.items
    (restarts_elsewhere here (local_of here.tenant c.args.self.now) c.args.restarted (sym c.is_among.ensures ∙ c.if-not-is_among.true))

pub returns-clause-reacts : goal.returns-clause-reacts
returns-clause-reacts c =
    let here = here_of c.args.here.now in
    on_ok_weaker c.push_if_settled.result
    (λ pushes. restart_reacts here c.args.restarted c.args.self.now (sym c.is_among.ensures ∙ c.if-not-is_among.false)
    c.replicas_changed.new.self c.args.outbox.now.items c.replicas_changed.new.outbox.items c.in_ok-replicas_changed.ensures.reacts
    c.end_push.new.self c.in_ok-end_push.ensures.each c.in_ok-end_push.ensures.timed c.push_if_settled.new.self c.push_if_settled.new.outbox.items pushes)
    c.push_if_settled.ensures.reacts

pub returns-clause-fault : goal.returns-clause-fault
returns-clause-fault c =
    let here = here_of c.args.here.now in
    IfErr-weaker c.push_if_settled.result _ _
    (restart_stops here c.args.restarted c.args.self.now (sym c.is_among.ensures ∙ c.if-not-is_among.false)
    c.replicas_changed.new.self c.args.outbox.now.items c.replicas_changed.new.outbox.items c.in_ok-replicas_changed.ensures.reacts
    c.end_push.new.self c.in_ok-end_push.ensures.each c.in_ok-end_push.ensures.timed)
    c.push_if_settled.ensures.fault

pub returns-clause-order : goal.returns-clause-order
returns-clause-order c order =
    let here = here_of c.args.here.now in
    let r = c.args.restarted in
    on_ok_weaker c.push_if_settled.result
    (λ reacts. quiet_in_order here (other_restarted here r) c.args.self.now c.push_if_settled.new.self c.args.outbox.now.items c.push_if_settled.new.outbox.items
    (restarted_quiet here r) (other_restarted_sound here r) reacts order)
    (returns-clause-reacts c)
