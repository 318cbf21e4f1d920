use Rattle.am_event.specs.declared.event.Event.TheVariants.{Lose}
use Rattle.am_gateway.proofs.PassingLemmas.{one_step, step_adds}
use Rattle.am_gateway.proofs.passing.lose.Goals as goal

pub returns-clause-lost : goal.returns-clause-lost
returns-clause-lost g c =
    let contents = g.W.AnyWorld.contents in
    one_step (contents c.args.world.now) (Lose c.args.message.now) (contents c.step.new.self) c.step.ensures.step

pub returns-clause-stay : goal.returns-clause-stay
returns-clause-stay g c =
    step_adds (g.W.AnyWorld.contents c.args.world.now) _ (g.W.AnyWorld.contents c.step.new.self) c.step.ensures.step
