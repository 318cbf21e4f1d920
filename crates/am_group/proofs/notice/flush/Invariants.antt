use Rattle.std.proofs.Common.{◌≡◌, map, take}
use Rattle.am_alert.specs.HeldAlert.{held_alert}
use Rattle.am_group.specs.Deeds.{deed}
use Rattle.am_group.specs.Notices.{deeds_from}
use Rattle.am_group.proofs.notice.flush.Given as goal

abbrev pub invariant-loop-place : goal.invariant-loop-place
invariant-loop-place l =
    map deed l.acts.items ≡ deeds_from 0 l.receiver.name l.key (take l.place l.webhook-items) l.sent (map held_alert l.alerts) l.repeat_interval l.moment
