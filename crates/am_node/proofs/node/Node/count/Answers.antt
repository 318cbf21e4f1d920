use Rattle.am_node.specs.Accepting.{counted}
use Rattle.am_node.proofs.Accepted.{planned_counted}
use Rattle.am_node.proofs.Kept.{blank_planned}
use Rattle.am_node.proofs.Planned.{all_blank, made_planned}
use Rattle.am_node.proofs.node.Node.count.Goals as goal

pub invariant_of-self : goal.invariant_of-self
invariant_of-self c =
    made_planned c.args.tenant.now (counted c.args.more c.args.drawn) c.self.inside.parts c.count.new.self c.self.invariant c.in-Ok.ensures
    (planned_counted c.args.more c.args.drawn)

pub invariant_of-self-in-Err : goal.invariant_of-self-in-Err
invariant_of-self-in-Err c = all_blank c.clear.new.self blank_planned c.clear.ensures
