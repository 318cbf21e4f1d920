use Rattle.am_config.proofs.Configured.{read_configured}
use Rattle.am_config.proofs.config.Config.routes.Goals as goal

pub returns-clause-tree : goal.returns-clause-tree
returns-clause-tree c = rw (← c.self.view_is) (read_configured _ c.self.invariant).tree

pub returns-clause-few : goal.returns-clause-few
returns-clause-few c = rw (← c.self.view_is) (read_configured _ c.self.invariant).few_routes

pub returns-clause-configured : goal.returns-clause-configured
returns-clause-configured c = rw (← c.self.view_is) (read_configured _ c.self.invariant)
