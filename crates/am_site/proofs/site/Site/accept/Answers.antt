use Rattle.std.proofs.Common.{refl}
use Rattle.std.proofs.lemmas.Result.{on_ok_weaker}
use Rattle.am_node.specs.Accepting.{accepted}
use Rattle.am_site.proofs.Carrying.{keeps_node, position_made}
use Rattle.am_site.proofs.Put.{accepts}
use Rattle.am_site.proofs.site.Site.accept.Goals as goal

pub returns-clause-makes : goal.returns-clause-makes
returns-clause-makes g c =
    on_ok_weaker c.accept.result (λ makes. accepts c.args.here.now.tenant.now c.args.here.now.moment c.args.items.items c.args.self.now c.accept.new.self makes) c.accept.ensures.does

pub returns-clause-kept : goal.returns-clause-kept
unfolding accepted
returns-clause-kept g c =
    on_ok_weaker c.accept.result
    (λ makes. keeps_node c.args.self.now c.accept.new.self
    (position_made c.args.here.now.tenant.now (accepted c.args.here.now.moment c.args.items.items) c.args.self.now.node c.accept.new.self (λ l. refl) makes))
    c.accept.ensures.does
