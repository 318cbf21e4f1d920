use Rattle.std.proofs.Common.{ap, ◌∙◌}
use Rattle.std.proofs.lemmas.Result.{IfOk-weaker}
use Rattle.am_alert.specs.Made.{chosen, lasts_among}
use Rattle.am_alert.proofs.LastOfEach.{chosen_lasts}
use Rattle.am_alert.proofs.made.last_of_each.Goals as goal

pub returns : goal.returns
returns c =
    let chose = ap (λ lasts. chosen lasts c.args.posted.items) (c.in_ok-lasts.ensures ∙ ap lasts_among c.deref.ensures.value) in
    IfOk-weaker c.chosen.result _ _ (λ v is. is ∙ chose ∙ chosen_lasts c.args.posted.items) c.chosen.ensures
