use Rattle.std.proofs.Common.{◌≡◌, ◌++◌, drop, map}
use Rattle.am_muting.specs.Asked.{chosen}
use Rattle.am_muting.specs.Muting.{is_muted}
use Rattle.am_muting.proofs.muting.muted_of.Given as goal

abbrev pub invariant-loop-place : goal.invariant-loop-place
invariant-loop-place l =
    l.muted.items ++ chosen (drop l.place (map is_muted l.mutes)) (drop l.place (map (λ set. set.now) l.alerts))
    ≡ chosen (map is_muted l.mutes) (map (λ set. set.now) l.alerts)
