use Rattle.std.proofs.Common.{◌≡◌, drop}
use Rattle.am_item.specs.Best.{all_joined}
use Rattle.am_rows.specs.Rows.{rows_of, stored_in}
use Rattle.am_share.specs.Pairs.{things_of}
use Rattle.am_test_store.proofs.reading.held_of.Given as goal

abbrev pub invariant-loop-pair : goal.invariant-loop-pair
invariant-loop-pair l =
    all_joined l.held (stored_in (things_of l.tenant (drop l.pair-index l.pairs))) ≡ rows_of l.tenant l.pairs
