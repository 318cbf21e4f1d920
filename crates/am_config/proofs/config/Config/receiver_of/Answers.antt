use Rattle.am_config.proofs.Configured.{receiver_listed}
use Rattle.am_config.proofs.config.Config.receiver_of.Goals as goal

pub element-requires : goal.element-requires
element-requires c =
    rw c.as_slice-2.ensures
    (receiver_listed _ c.args.number c.element-node.result.now c.self.invariant (rw (← c.self.view_is) at c.requires)
    (rw c.as_slice.ensures at c.element-node.ensures))
