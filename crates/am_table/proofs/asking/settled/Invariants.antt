use Rattle.std.proofs.Common.{◌≡◌, ◌++◌, drop}
use Rattle.am_table.specs.Narrowing.{answered}
use Rattle.am_table.proofs.asking.settled.Given as goal

abbrev pub invariant-loop-flag : goal.invariant-loop-flag
invariant-loop-flag l = l.settled.items ++ answered (drop l.flag-index l.flags) l.rest ≡ answered l.flags l.answers
