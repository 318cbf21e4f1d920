use Rattle.std.specs.Prelude.{All, take}
use Rattle.am_store.specs.Rows.{IsSilenceRow}
use Rattle.am_store.proofs.opening.test_silences.Given as goal

abbrev pub invariant-loop-row : goal.invariant-loop-row
invariant-loop-row l = All IsSilenceRow (take l.row-index l.rows)
