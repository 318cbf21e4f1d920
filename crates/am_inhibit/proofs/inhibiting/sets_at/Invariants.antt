use Rattle.std.proofs.Common.{◌≡◌, [], get_or, map, take}
use Rattle.am_inhibit.proofs.inhibiting.sets_at.Given as goal

abbrev pub invariant-loop-place : goal.invariant-loop-place
invariant-loop-place l = map (λ set. set.now) l.chosen.items ≡ map (λ place. get_or (map (λ set. set.now) l.sets) place []) (take l.place-index l.places)
