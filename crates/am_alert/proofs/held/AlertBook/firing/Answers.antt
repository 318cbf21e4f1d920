use Rattle.std.proofs.Common.{ap, filter, sym, ◌∙◌}
use Rattle.am_item.specs.declared.item.Alert.{Alert}
use Rattle.am_item.specs.declared.stamp.Stamped.{Stamped}
use Rattle.am_alert.specs.Held.{alerts_among, fires}
use Rattle.am_alert.proofs.Firing.{among_alerts, among_held}
use Rattle.am_alert.proofs.held.AlertBook.firing.Goals as goal

pub returns-clause-firing : goal.returns-clause-firing
returns-clause-firing c =
    let fire = filter (λ (alert : Stamped Alert). fires c.args.moment alert) in
    c.in_ok-firing.ensures.firing ∙ ap fire (sym (among_held c.alerts.result.now) ∙ ap alerts_among c.alerts.ensures.items ∙ sym (among_alerts c.self.inside.held.now)) ∙ ap (λ held. fire (alerts_among held)) c.self.view_is
