use Rattle.std.proofs.Common.{ap, ◌∙◌}
use Rattle.std.specs.Option.{is_some, option_map}
use Rattle.am_item.specs.Held.{alert_item}
use Rattle.am_api.proofs.Counting.{some_held}
use Rattle.am_api.proofs.posting.has_alert.Goals as goal

pub returns : goal.returns
returns c =
    let item = alert_item c.args.labels.now in
    c.is_some.ensures ∙ some_held item c.get.result
    ∙ ap (λ held. is_some (option_map item held)) c.get.ensures
    ∙ ap is_some (c.alerts.ensures.at c.args.labels.now)
