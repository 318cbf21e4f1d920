use Rattle.std.proofs.Common.{◌≡◌, ◌-◌, ◌^◌, fold, map, min, take}
use Rattle.am_ring.specs.Distances.{way}
use Rattle.am_ring.proofs.distance.distance.Given as goal

abbrev pub invariant-loop-token : goal.invariant-loop-token
invariant-loop-token l = l.least ≡ fold min (2 ^ 32 - 1) (map (way l.place) (take l.token-index l.tokens))
