use Rattle.am_config.proofs.Configured.{read_configured}
use Rattle.am_config.proofs.config.Config.rules.Goals as goal

pub returns-clause-configured : goal.returns-clause-configured
returns-clause-configured c = rw (← c.self.view_is) (read_configured _ c.self.invariant)
