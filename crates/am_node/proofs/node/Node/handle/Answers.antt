use Rattle.am_node.specs.Ticking.{handled}
use Rattle.am_node.specs.Ticks.{muted_for}
use Rattle.am_node.proofs.Kept.{blank_planned, handled_keeps}
use Rattle.am_node.proofs.Planned.{all_blank, did_planned}
use Rattle.am_node.proofs.StoredRows.{stores_handled}
use Rattle.am_node.proofs.node.Node.handle.Goals as goal

pub invariant_of-self : goal.invariant_of-self
invariant_of-self c =
    did_planned c.args.tenant.now (handled c.args.context.now (muted_for c.args.tenant.now c.args.muted.now) c.args.key.now) c.self.inside.parts c.handle.new.self c.self.invariant c.in-Ok.ensures.does
    (handled_keeps c.args.context.now (muted_for c.args.tenant.now c.args.muted.now) c.args.key.now)

pub invariant_of-self-in-Err : goal.invariant_of-self-in-Err
invariant_of-self-in-Err c = all_blank c.clear.new.self blank_planned c.clear.ensures

pub returns-in-Ok-clause-stored : goal.returns-in-Ok-clause-stored
returns-in-Ok-clause-stored c =
    rw (← c.self.view_is) (stores_handled c.args.tenant.now c.args.context.now (muted_for c.args.tenant.now c.args.muted.now) c.args.key.now c.self.inside.parts c.handle.new.self c.self.invariant c.in-Ok.ensures.does)

pub returns-in-Ok-clause-planned : goal.returns-in-Ok-clause-planned
returns-in-Ok-clause-planned c = rw (← c.self.view_is) (c.self.invariant c.args.tenant.now)

pub returns-in-Err-clause-planned : goal.returns-in-Err-clause-planned
returns-in-Err-clause-planned c = rw (← c.self.view_is) (c.self.invariant c.args.tenant.now)
