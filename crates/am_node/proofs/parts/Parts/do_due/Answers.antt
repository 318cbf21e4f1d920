use Rattle.std.proofs.Common.{ap, map}
use Rattle.std.proofs.lemmas.Result.{IfErr-weaker, IfOk-weaker}
use Rattle.am_node.specs.Held.{local_of}
use Rattle.am_node.specs.Ticks.{context_for, keys_for}
use Rattle.am_timer.specs.Queue.{timers_of}
use Rattle.am_timer.specs.Timer.{Timer}
use Rattle.am_node.proofs.Ticks.{all_due, stops_due}
use Rattle.am_node.proofs.parts.Parts.do_due.Goals as goal

pub returns-clause-done : goal.returns-clause-done
unfolding keys_for timers_of
returns-clause-done c =
    let context = context_for c.args.start.instance c.args.start.incarnation c.args.moment c.args.limits.now in
    IfOk-weaker c.handle_all.result _ _
    (λ all handled. all_due context c.in_ok-due.muted c.deref.result.now (λ t. local_of t c.args.self.now) (λ t. local_of t c.due.new.self) _ all.items
    (λ t. ap (λ parts. local_of t parts) c.due.ensures.stays)
    (λ t. rw c.deref.ensures.value (ap (map (λ (x : Timer). x.name.key)) (c.in_ok-due.ensures.due t)))
    (λ t some. c.in_ok-due.ensures.muted t (rw c.deref.ensures.value at some)) handled)
    c.handle_all.ensures.handled

pub returns-clause-fault : goal.returns-clause-fault
unfolding keys_for timers_of
returns-clause-fault c =
    let context = context_for c.args.start.instance c.args.start.incarnation c.args.moment c.args.limits.now in
    IfErr-weaker c.handle_all.result _ _
    (λ fault stops. stops_due context c.in_ok-due.muted c.deref.result.now (λ t. local_of t c.args.self.now) (λ t. local_of t c.due.new.self) c.due.new.cache.refused
    (λ t. ap (λ parts. local_of t parts) c.due.ensures.stays)
    (λ t. rw c.deref.ensures.value (ap (map (λ (x : Timer). x.name.key)) (c.in_ok-due.ensures.due t)))
    (λ t some. c.in_ok-due.ensures.muted t (rw c.deref.ensures.value at some)) fault stops)
    c.handle_all.ensures.fault
