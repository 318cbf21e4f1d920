use Rattle.std.proofs.Common.{◌≡◌, ℕ, List, [], ◌++◌, map, if◌then◌else◌}
use Rattle.am_tenant.specs.Names.{same}
use Rattle.am_node.specs.Local.{said_in}
use Rattle.am_node.specs.Ticks.{said_of}
use Rattle.am_node.proofs.ticking.add_all.Given as goal

abbrev pub invariant-loop-report : goal.invariant-loop-report
invariant-loop-report l = (t : List ℕ) → said_of t l.all.items ≡ said_of t l.fn.all.items ++ (if same t l.tenant then map said_in l.yielded else [])
