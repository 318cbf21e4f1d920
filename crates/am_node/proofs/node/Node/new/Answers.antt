use Rattle.am_node.proofs.Kept.{blank_planned}
use Rattle.am_node.proofs.Planned.{all_blank}
use Rattle.am_node.proofs.node.Node.new.Goals as goal

pub invariant_of-result : goal.invariant_of-result
invariant_of-result c = all_blank c.in_ok-parts.parts blank_planned c.in_ok-parts.ensures
