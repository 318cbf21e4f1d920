use Rattle.std.proofs.Common.{◌≡◌, All, length, map, true}
use Rattle.am_table.proofs.table.all_taken.Given as goal

abbrev pub invariant-loop : goal.invariant-loop
invariant-loop l = (length l.table.items ≡ l.counter) × All (λ row. row.items ≡ map (λ set. true) l.sets) l.table.items
