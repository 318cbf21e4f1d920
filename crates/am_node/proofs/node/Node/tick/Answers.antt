use Rattle.am_node.specs.Held.{local_of}
use Rattle.am_node.specs.Ticks.{context_for}
use Rattle.am_node.proofs.Kept.{blank_planned}
use Rattle.am_node.proofs.Planned.{all_blank}
use Rattle.am_node.proofs.Ticks.{all_keep}
use Rattle.am_node.proofs.node.Node.tick.Goals as goal

pub invariant_of-self : goal.invariant_of-self
invariant_of-self g c =
    all_keep (context_for c.args.start.instance c.args.start.incarnation c.args.moment c.args.limits.now) (λ t. local_of t c.self.inside.parts) (λ t. local_of t c.tick.new.self) c.in-Ok.all.items
    c.in-Ok.ensures.ticks c.self.invariant

pub invariant_of-self-in-Err : goal.invariant_of-self-in-Err
invariant_of-self-in-Err g c = all_blank c.clear.new.self blank_planned c.clear.ensures

pub returns-in-Ok-clause-stores : goal.returns-in-Ok-clause-stores
returns-in-Ok-clause-stores g c = rw (← c.self.view_is) c.in-Ok.ensures.stores
