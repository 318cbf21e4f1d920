use Rattle.am_gateway.proofs.PassingLemmas.{delivered, step_adds}
use Rattle.am_gateway.proofs.passing.deliver.Goals as goal

pub returns-then-place-lt-MOST_OUTPUTS-clause-delivered : goal.returns-then-place-lt-MOST_OUTPUTS-clause-delivered
returns-then-place-lt-MOST_OUTPUTS-clause-delivered g c =
    let contents = g.W.AnyWorld.contents in
    delivered c.args.place c.args.moment c.args.message.now (contents c.args.world.now) (contents c.step.new.self)
    c.if-place-lt-MOST_OUTPUTS.true c.step.ensures.step

pub returns-then-place-lt-MOST_OUTPUTS-clause-stay : goal.returns-then-place-lt-MOST_OUTPUTS-clause-stay
returns-then-place-lt-MOST_OUTPUTS-clause-stay g c =
    step_adds (g.W.AnyWorld.contents c.args.world.now) _ (g.W.AnyWorld.contents c.step.new.self) c.step.ensures.step
