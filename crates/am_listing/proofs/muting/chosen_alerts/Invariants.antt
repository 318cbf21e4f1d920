use Rattle.std.proofs.Common.{◌≡◌, ◌++◌, drop, get_or, map}
use Rattle.std.specs.List.{enumerate_from}
use Rattle.am_muting.specs.Muting.{nothing}
use Rattle.am_listing.specs.Listed.{chosen_among, is_chosen, muted}
use Rattle.am_listing.proofs.Places.{rows}
use Rattle.am_listing.proofs.muting.chosen_alerts.Given as goal

abbrev pub invariant-loop-place : goal.invariant-loop-place
invariant-loop-place l =
    map muted l.chosen.items ++ rows (is_chosen l.query l.taken l.mutes) (λ place. get_or l.mutes place nothing) l.place (drop l.place l.alerts)
    ≡ chosen_among l.query l.taken l.mutes (enumerate_from 0 l.alerts)
