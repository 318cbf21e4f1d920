use Rattle.std.proofs.Common.{◌≡◌, true}
use Rattle.am_bench.proofs.store.work.Given as goal

abbrev pub invariant-loop-number : goal.invariant-loop-number
invariant-loop-number g l = g.R.Rows.is_open l.store ≡ true
