use Rattle.std.proofs.Common.{◌≡◌, Some, false, get_or, map, take}
use Rattle.am_route.proofs.answers.known_at.Given as goal

abbrev pub invariant-loop-row : goal.invariant-loop-row
invariant-loop-row l = l.known.items ≡ map (λ row. Some (get_or row.items l.place false)) (take l.row-index l.table)
