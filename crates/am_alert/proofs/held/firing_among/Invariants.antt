use Rattle.std.proofs.Common.{◌≡◌, filter, map, take}
use Rattle.am_alert.specs.Held.{fires}
use Rattle.am_alert.specs.HeldAlert.{all_held, held_alert}
use Rattle.am_alert.proofs.held.firing_among.Given as goal

abbrev pub invariant-loop-kept : goal.invariant-loop-kept
invariant-loop-kept l =
    map held_alert l.firing.items ≡ filter (λ alert. fires l.moment alert) (all_held (take l.kept-index l.alerts))
