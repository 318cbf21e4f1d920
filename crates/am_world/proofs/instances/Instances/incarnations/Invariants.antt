use Rattle.std.proofs.Common.{◌≡◌, length, take}
use Rattle.am_world.specs.Places.{incarnations_of}
use Rattle.am_world.proofs.instances.Instances.incarnations.Given as goal

-- those so far are written
abbrev pub invariant-loop-place : goal.invariant-loop-place
invariant-loop-place l =
    (length l.incarnations ≡ 8) × (take l.place l.incarnations ≡ take l.place (incarnations_of l.self))
