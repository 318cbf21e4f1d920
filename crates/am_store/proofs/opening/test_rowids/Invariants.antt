use Rattle.am_store.proofs.Rising.{RiseTo}
use Rattle.am_store.proofs.opening.test_rowids.Given as goal

abbrev pub invariant-loop-at : goal.invariant-loop-at
invariant-loop-at l = RiseTo l.rows l.at
