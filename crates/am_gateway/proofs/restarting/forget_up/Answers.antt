use Rattle.std.proofs.Common.{not, rules}
use Rattle.std.proofs.lemmas.Fn.{filter_same}
use Rattle.am_gateway.specs.Restarting.{vain_since}
use Rattle.am_world.specs.Places.{up_at}
use Rattle.am_gateway.proofs.restarting.forget_up.Goals as goal

pub returns : goal.returns
unfolding vain_since
returns g c =
    filter_same _ (λ j. not (up_at j (g.W.AnyWorld.contents c.args.world.now).state.instances)) _
    (λ x b f' k. search rules) _ _ c.retain.ensures.filtered
