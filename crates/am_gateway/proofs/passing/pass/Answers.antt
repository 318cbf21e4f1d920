use Rattle.std.proofs.Common.{Some, ◌∙◌, ap, subst, sym}
use Rattle.am_gateway.specs.Passing.{deliveries_at, losses, message_at, passes_at}
use Rattle.am_world.specs.Runs.{Run}
use Rattle.am_gateway.proofs.PassingLemmas.{run_both}
use Rattle.am_gateway.proofs.passing.pass.Goals as goal

pub returns-in-Some-clause-passed : goal.returns-in-Some-clause-passed
returns-in-Some-clause-passed g c =
    let contents = g.W.AnyWorld.contents in
    subst (λ message. Run (contents c.args.world.now) (passes_at c.args.place c.args.moment message)
    (contents c.lose.new.world))
    (sym c.in-Some.is ∙ c.message_at.ensures ∙ ap (message_at c.args.place) c.outputs.ensures)
    (run_both (contents c.args.world.now) (contents c.deliver.new.world) (contents c.lose.new.world)
    (deliveries_at c.args.place c.args.moment (Some c.in-Some.name)) (losses (Some c.in-Some.name))
    c.deliver.ensures.delivered c.lose.ensures.lost)
