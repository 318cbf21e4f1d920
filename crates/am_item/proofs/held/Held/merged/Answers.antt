use Rattle.std.proofs.Common.{ap, ◌∙◌}
use Rattle.am_item.specs.Best.{merged}
use Rattle.am_item.specs.Held.{AreOrdered, items_in}
use Rattle.am_item.specs.declared.held.Held.TheInside.{Inside}
use Rattle.am_item.proofs.Merging.{merged_whole}
use Rattle.am_item.proofs.held.Held.merged.Goals as goal

pub returns : goal.returns
returns c =
    let h = c.self.inside in
    let o = c.other.inside in
    let n : Inside = record { configuration = c.in_ok-configuration.configuration; silences = c.in_ok-silences.silences; alerts = c.in_ok-alerts.alerts; sent = c.in_ok-sent.sent } in
    let are : AreOrdered n = record { silences = c.in_ok-silences.ensures.ordered; alerts = c.in_ok-alerts.ensures.ordered; sent = c.in_ok-sent.ensures.ordered } in
    merged_whole h o n c.self.invariant c.other.invariant are c.in_ok-configuration.ensures
    c.in_ok-silences.ensures.newer c.in_ok-alerts.ensures.newer c.in_ok-sent.ensures.newer
    ∙ ap (λ xs. merged xs (items_in o)) c.self.view_is
    ∙ ap (merged c.args.self.now) c.other.view_is
