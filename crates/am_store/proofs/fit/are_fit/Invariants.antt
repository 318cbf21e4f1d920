use Rattle.std.proofs.Common.{take}
use Rattle.std.specs.List.{All}
use Rattle.am_rows.specs.Fit.{IsFit}
use Rattle.am_store.proofs.fit.are_fit.Given as goal

abbrev pub invariant-loop-item : goal.invariant-loop-item
invariant-loop-item l = All IsFit (take l.item-index l.items)
