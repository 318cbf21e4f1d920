use Rattle.std.proofs.Common.{None, Some, ap, append-nil, map, sym, ◌∙◌}
use Rattle.std.proofs.lemmas.List.{map-append}
use Rattle.am_site.specs.Reacting.{said_in}
use Rattle.am_site.proofs.Carrying.{finishes}
use Rattle.am_site.proofs.site.Site.finish.Goals as goal

pub returns-in_ok-push : goal.returns-in_ok-push
returns-in_ok-push c =
    let outbox = c.args.outbox.now.items in
    finishes c.args.here.now.tenant.now c.args.reply c.args.number c.args.self.now c.close.new.self outbox c.push.new.self.items (Some c.in-Some.operation)
    (sym c.in-Some.ensures.operation) c.close.ensures.each c.close.ensures.incarnation
    (ap (map said_in) c.in_ok-push.ensures.items ∙ map-append said_in outbox _)

pub returns-in_default : goal.returns-in_default
returns-in_default c =
    let outbox = c.args.outbox.now.items in
    finishes c.args.here.now.tenant.now c.args.reply c.args.number c.args.self.now c.close.new.self outbox outbox None
    (sym c.in_default.ensures.operation) c.close.ensures.each c.close.ensures.incarnation (sym (append-nil (map said_in outbox)))
