use Rattle.am_config.proofs.Judgements.{reading_meant}
use Rattle.am_config.proofs.config.Config.text.Goals as goal

pub returns-clause-meant : goal.returns-clause-meant
returns-clause-meant c = rw (← c.self.view_is) (reading_meant _ _ c.self.invariant)
