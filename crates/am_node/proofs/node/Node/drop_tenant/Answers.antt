use Rattle.am_node.specs.Local.{dropped}
use Rattle.am_node.proofs.Kept.{dropped_planned}
use Rattle.am_node.proofs.Planned.{made_planned}
use Rattle.am_node.proofs.node.Node.drop_tenant.Goals as goal

pub invariant_of-self : goal.invariant_of-self
invariant_of-self c =
    made_planned c.args.tenant.now dropped c.self.inside.parts c.drop_tenant.new.self c.self.invariant c.drop_tenant.ensures
    (λ l is. dropped_planned l)
