use Rattle.std.proofs.Common.{ap, filter, subst, sym, ◌∙◌}
use Rattle.std.proofs.lemmas.List.{take_all}
use Rattle.am_item.specs.declared.item.Alert.{Alert}
use Rattle.am_item.specs.declared.stamp.Stamped.{Stamped}
use Rattle.am_alert.specs.Held.{AreRising, fires}
use Rattle.am_alert.specs.HeldAlert.{all_held}
use Rattle.am_alert.proofs.Firing.{rising_firing}
use Rattle.am_alert.proofs.held.firing_among.Goals as goal

pub returns-clause-rising : goal.returns-clause-rising
returns-clause-rising c =
    let fire = filter (λ (alert : Stamped Alert). fires c.args.moment alert) in
    let all = take_all c.loop-kept.kept-index c.args.alerts.now (rw c.entries-kept-items.ensures.entries at c.loop-kept-test.false) in
    subst AreRising (sym (c.loop-kept.invariant ∙ ap (λ entries. fire (all_held entries)) all))
    (rising_firing c.args.moment c.args.alerts.now c.entries-kept-items.ensures.ordered)
