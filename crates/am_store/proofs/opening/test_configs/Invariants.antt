use Rattle.std.specs.Prelude.{All, take}
use Rattle.am_store.specs.Rows.{IsConfig}
use Rattle.am_store.proofs.opening.test_configs.Given as goal

abbrev pub invariant-loop-row : goal.invariant-loop-row
invariant-loop-row l = All IsConfig (take l.row-index l.rows)
