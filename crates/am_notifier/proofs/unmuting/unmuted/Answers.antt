use Rattle.std.proofs.Common.{◌∙◌, ap, subst, sym}
use Rattle.am_alert.specs.Held.{AreRising}
use Rattle.am_notifier.specs.Flushing.{unmuted_among}
use Rattle.am_notifier.proofs.Unmuted.{unmuted_are, unmuted_rise}
use Rattle.am_notifier.proofs.unmuting.unmuted.Goals as goal

pub returns-clause-alerts : goal.returns-clause-alerts
returns-clause-alerts c =
    let entries = c.alerts.result.now in
    c.in_ok-alerts.ensures ∙ ap (unmuted_among c.args.muted.now entries) c.sinces.ensures.sinces
    ∙ unmuted_are c.args.muted.now entries c.args.held.now c.alerts.ensures.items c.args.members.now

pub returns-clause-rising : goal.returns-clause-rising
returns-clause-rising c =
    let entries = c.alerts.result.now in
    subst AreRising (sym (c.in_ok-alerts.ensures ∙ ap (unmuted_among c.args.muted.now entries) c.sinces.ensures.sinces))
    (unmuted_rise c.args.muted.now entries c.args.members.now c.sinces.ensures.rising)
