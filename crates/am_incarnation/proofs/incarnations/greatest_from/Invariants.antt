use Rattle.std.proofs.Common.{take}
use Rattle.am_incarnation.specs.Incarnations.{IsGreatestFrom}
use Rattle.am_incarnation.proofs.incarnations.greatest_from.Given as goal

abbrev pub invariant-loop-row : goal.invariant-loop-row
invariant-loop-row l = IsGreatestFrom l.fn.least l.greatest (take l.row-index l.rows)
