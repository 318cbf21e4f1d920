use Rattle.std.proofs.Common.{◌≡◌, ◌++◌, map, take}
use Rattle.sqlite.specs.Order.{bytes, column}
use Rattle.am_store.proofs.tenants.push_names.Given as goal

abbrev pub invariant-loop-row : goal.invariant-loop-row
invariant-loop-row l = l.names.items ≡ l.fn.names.items ++ map (λ row. bytes (column row 0)) (take l.row-index l.rows)
