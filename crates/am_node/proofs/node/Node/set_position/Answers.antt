use Rattle.std.specs.Option.{option_map}
use Rattle.am_notifier.specs.Positions.{number_of}
use Rattle.am_node.specs.Accepting.{positioned}
use Rattle.am_node.proofs.Accepted.{planned_positioned}
use Rattle.am_node.proofs.Kept.{blank_planned}
use Rattle.am_node.proofs.Planned.{all_blank, made_planned}
use Rattle.am_node.proofs.node.Node.set_position.Goals as goal

pub invariant_of-self : goal.invariant_of-self
invariant_of-self c =
    made_planned c.args.tenant.now (positioned (option_map number_of c.args.position)) c.self.inside.parts c.set_position.new.self c.self.invariant c.in-Ok.ensures.does
    (planned_positioned (option_map number_of c.args.position))

pub invariant_of-self-in-Err : goal.invariant_of-self-in-Err
invariant_of-self-in-Err c = all_blank c.clear.new.self blank_planned c.clear.ensures
