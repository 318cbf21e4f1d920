use Rattle.std.proofs.Common.{ap₂, ◌∙◌}
use Rattle.std.proofs.lemmas.Result.{IfOk-weaker}
use Rattle.am_payload.specs.Listed.{groups_text}
use Rattle.am_group_list.proofs.Steps.{written_groups}
use Rattle.am_group_list.proofs.listing.written.Goals as goal

pub returns-clause-text : goal.returns-clause-text
returns-clause-text c =
    IfOk-weaker c.groups_json.result _ _
    (λ o is.
    is ∙ ap₂ (groups_text c.args.config.now) (c.deref.ensures.value ∙ c.in_ok-read.ensures) c.deref-2.ensures.value
    ∙ written_groups c.args.config.now c.args.alerts.items _ c.in_ok-groups.groups.items c.in_ok-groups.ensures.read)
    c.groups_json.ensures
