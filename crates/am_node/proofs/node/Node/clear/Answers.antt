use Rattle.am_node.proofs.Kept.{blank_planned}
use Rattle.am_node.proofs.Planned.{all_blank}
use Rattle.am_node.proofs.node.Node.clear.Goals as goal

pub invariant_of-self : goal.invariant_of-self
invariant_of-self c = all_blank c.clear.new.self blank_planned c.clear.ensures
