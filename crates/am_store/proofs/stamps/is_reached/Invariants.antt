use Rattle.std.proofs.Common.{◌≡◌, false, take}
use Rattle.std.specs.List.{list_any}
use Rattle.am_store.specs.Reading.{reached}
use Rattle.am_store.proofs.stamps.is_reached.Given as goal

abbrev pub invariant-loop-row : goal.invariant-loop-row
invariant-loop-row l = list_any (reached l.stamp) (take l.row-index l.rows) ≡ false
