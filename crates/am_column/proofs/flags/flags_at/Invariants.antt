use Rattle.std.proofs.Common.{◌≡◌, ◌∷◌, false, get_or, map, take, true}
use Rattle.am_column.proofs.flags.flags_at.Given as goal

abbrev pub invariant-loop-place : goal.invariant-loop-place
invariant-loop-place l = l.found.items ≡ true ∷ map (λ place. get_or l.flags place false) (take l.place-index l.places)
