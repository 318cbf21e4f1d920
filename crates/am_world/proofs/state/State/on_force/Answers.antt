use Rattle.am_world.proofs.TurnsStep.{force_step}
use Rattle.am_world.proofs.state.State.on_force.Goals as goal

pub returns-clause-step : goal.returns-clause-step
returns-clause-step c =
    force_step c.args.self.now c.force_all.new.self c.args.tenant.now c.requires.numbered c.force_all.ensures.turns
