use Rattle.std.proofs.Common.{◌≡◌, take}
use Rattle.am_column.specs.Flags.{differing}
use Rattle.am_column.proofs.flags.differing.Given as goal

abbrev pub invariant-loop-number : goal.invariant-loop-number
invariant-loop-number l = l.found.items ≡ differing l.others (take l.number l.places) (take l.number l.answers)
