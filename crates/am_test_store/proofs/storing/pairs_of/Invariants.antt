use Rattle.std.proofs.Common.{◌≡◌, ◌++◌, drop, map}
use Rattle.am_rows.specs.Rows.{stored_in}
use Rattle.am_test_store.specs.Pairs.{with_name}
use Rattle.am_test_store.proofs.storing.pairs_of.Given as goal

abbrev pub invariant-loop-item : goal.invariant-loop-item
invariant-loop-item l =
    l.pairs.items ++ map (with_name l.tenant) (stored_in (drop l.item-index l.items)) ≡ map (with_name l.tenant) (stored_in l.items)
