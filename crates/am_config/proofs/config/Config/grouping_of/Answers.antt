use Rattle.am_config.proofs.Configured.{grouping_listed}
use Rattle.am_config.proofs.config.Config.grouping_of.Goals as goal

pub element-requires : goal.element-requires
element-requires c =
    rw c.as_slice-routes.ensures
    (grouping_listed _ c.args.number c.in-Some.place c.element-node.result.now c.self.invariant (rw (← c.self.view_is) at c.requires)
    (rw c.as_slice-routes.ensures at c.element-node.ensures) c.in-Some.is)
