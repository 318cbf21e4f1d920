use Rattle.std.proofs.Common.{◌∙◌, ap, filter, rules}
use Rattle.std.proofs.lemmas.Fn.{filter_same}
use Rattle.am_play.specs.Playing.{is_there}
use Rattle.am_play.proofs.mailing.drop_lost.Goals as goal

pub returns : goal.returns
returns g c =
    let is_left = is_there (g.W.AnyWorld.contents c.args.world.now).state in
    filter_same _ is_left _ (λ x b f' k. search rules) _ _ c.retain.ensures.filtered
    ∙ ap (filter is_left) c.mail.view_is
