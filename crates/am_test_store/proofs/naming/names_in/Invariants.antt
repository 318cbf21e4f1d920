use Rattle.std.proofs.Common.{◌≡◌, map, take}
use Rattle.am_test_store.proofs.naming.names_in.Given as goal

abbrev pub invariant-loop-name : goal.invariant-loop-name
invariant-loop-name l = l.names.items ≡ map (λ pair. pair.0) (take l.name-index l.pairs)
