use Rattle.am_node.specs.Accepting.{accepted}
use Rattle.am_node.proofs.Accepted.{planned_accepted}
use Rattle.am_node.proofs.Kept.{blank_planned}
use Rattle.am_node.proofs.Planned.{all_blank, made_planned}
use Rattle.am_node.proofs.node.Node.accept.Goals as goal

pub invariant_of-self : goal.invariant_of-self
invariant_of-self g c =
    made_planned c.args.tenant.now (accepted c.args.moment c.args.items.items) c.self.inside.parts c.commit.new.self c.self.invariant c.in-Ok.ensures.does
    (planned_accepted c.args.moment c.args.items.items)

pub invariant_of-self-in-Err : goal.invariant_of-self-in-Err
invariant_of-self-in-Err g c = all_blank c.clear.new.self blank_planned c.clear.ensures

pub returns-in-Ok-clause-stores : goal.returns-in-Ok-clause-stores
returns-in-Ok-clause-stores g c = rw (← c.self.view_is) c.in-Ok.ensures.stores
