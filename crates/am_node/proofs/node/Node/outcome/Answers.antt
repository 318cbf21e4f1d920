use Rattle.am_node.specs.Delivery.{outcome}
use Rattle.am_node.proofs.Kept.{blank_planned, outcome_keeps}
use Rattle.am_node.proofs.Planned.{all_blank, did_planned}
use Rattle.am_node.proofs.StoredRows.{stores_outcome}
use Rattle.am_node.proofs.node.Node.outcome.Goals as goal

pub invariant_of-self : goal.invariant_of-self
invariant_of-self c =
    did_planned c.args.tenant.now (outcome c.args.context.now c.args.number c.args.tries c.args.status) c.self.inside.parts c.outcome.new.self c.self.invariant c.in-Ok.ensures.does
    (outcome_keeps c.args.context.now c.args.number c.args.tries c.args.status)

pub invariant_of-self-in-Err : goal.invariant_of-self-in-Err
invariant_of-self-in-Err c = all_blank c.clear.new.self blank_planned c.clear.ensures

pub returns-in-Ok-clause-stored : goal.returns-in-Ok-clause-stored
returns-in-Ok-clause-stored c =
    rw (← c.self.view_is) (stores_outcome c.args.tenant.now c.args.context.now c.args.number c.args.tries c.args.status c.self.inside.parts c.outcome.new.self c.self.invariant c.in-Ok.ensures.does)
