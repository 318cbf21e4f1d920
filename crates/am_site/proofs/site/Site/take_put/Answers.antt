use Rattle.std.proofs.lemmas.Result.{IfErr-weaker, on_ok_weaker}
use Rattle.am_site.specs.Here.{here_of}
use Rattle.am_site.proofs.Put.{eq_zero, gets_ack, ne_zero, stops_acking, stops_put, wants_none}
use Rattle.am_site.proofs.site.Site.take_put.Goals as goal

pub returns-then-put-eq0-clause-reacts : goal.returns-then-put-eq0-clause-reacts
returns-then-put-eq0-clause-reacts g c =
    let put = c.args.put.now in
    rw c.in_ok-items.ensures at (wants_none c.args.here.now.tenant.now (here_of c.args.here.now) put.from put.operation c.in_ok-items.items.items c.args.self.now c.accept.new.self
    c.in_ok-accept.ensures.makes c.in_ok-accept.ensures.kept c.args.outbox.now.items (eq_zero c.args.put.now.operation c.if-put-eq0.true))

pub returns-clause-reacts : goal.returns-clause-reacts
returns-clause-reacts g c =
    let put = c.args.put.now in
    on_ok_weaker c.send_in.result
    (λ sent. rw c.in_ok-items.ensures at (gets_ack c.args.here.now.tenant.now (here_of c.args.here.now) put.from put.operation c.in_ok-items.items.items c.args.self.now c.accept.new.self
    c.in_ok-accept.ensures.makes c.in_ok-accept.ensures.kept c.send_in.new.self c.args.outbox.now.items c.send_in.new.outbox.items (ne_zero put.operation c.if-put-eq0.false) sent))
    c.send_in.ensures.reacts

pub returns-clause-fault : goal.returns-clause-fault
returns-clause-fault g c =
    let put = c.args.put.now in
    IfErr-weaker c.send_in.result _ _
    (λ fault stops. stops_put c.accept.new.cache.refused c.args.here.now put.from put.operation put.items.now c.args.self.now fault
    (rw c.in_ok-items.ensures at (stops_acking c.args.here.now.tenant.now (here_of c.args.here.now) put.from put.operation c.in_ok-items.items.items c.args.self.now c.accept.new.self
    c.in_ok-accept.ensures.makes c.in_ok-accept.ensures.kept c.args.outbox.now.items (ne_zero put.operation c.if-put-eq0.false) fault stops)))
    c.send_in.ensures.fault
