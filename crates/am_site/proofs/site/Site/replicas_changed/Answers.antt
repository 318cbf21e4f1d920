use Rattle.std.proofs.lemmas.Result.{on_ok_weaker}
use Rattle.am_site.proofs.Changed.{changes}
use Rattle.am_site.proofs.site.Site.replicas_changed.Goals as goal

pub returns-clause-reacts : goal.returns-clause-reacts
returns-clause-reacts c =
    let t = c.args.here.now.tenant.now in
    let x = c.args.outbox.now.items in
    let y = c.push_replies.new.outbox.items in
    on_ok_weaker c.push_replies.result
    (λ said. changes t c.args.self.now c.changed.new.self x y c.in_ok-connections.ensures.each c.changed.ensures.incarnation
    (rw (c.as_slice-2.ensures.value, c.in_ok-connections.ensures.connections, c.in_ok-reply.ensures, c.as_slice.ensures, c.in_ok-body.ensures) at said))
    c.push_replies.ensures
