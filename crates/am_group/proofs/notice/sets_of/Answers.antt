use Rattle.std.proofs.Common.{◌≡◌, ◌∙◌, ap, map}
use Rattle.std.proofs.lemmas.List.{take_all}
use Rattle.am_alert.specs.HeldAlert.{held_alert}
use Rattle.am_group.specs.Notices.{sets_of}
use Rattle.am_group.proofs.Telling.{rising_sets}
use Rattle.am_group.proofs.notice.sets_of.Goals as goal

pub unreachable-requires : goal.unreachable-requires
unreachable-requires c =
    let all : c.loop-alert.sets.items ≡ sets_of (map held_alert c.args.alerts.now) =
    c.loop-alert.invariant ∙ ap (λ alerts. sets_of (map held_alert alerts)) (take_all c.loop-alert.alert-index c.args.alerts.now c.loop-alert-test.false) in
    c.in-None.ensures (rw all (rising_sets (map held_alert c.args.alerts.now) c.requires))
