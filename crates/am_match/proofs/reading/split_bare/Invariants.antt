use Rattle.std.proofs.Common.{◌≡◌, ◌++◌, length}
use Rattle.am_match.specs.Reading.{run, is_bare}
use Rattle.am_match.proofs.reading.split_bare.Given as goal

abbrev pub invariant-bare : goal.invariant-bare
invariant-bare l =
    ((run is_bare l.fn.text).0 ≡ l.read.items ++ (run is_bare l.rest).0)
    × ((run is_bare l.fn.text).1 ≡ (run is_bare l.rest).1)

abbrev pub decreases-bare : goal.decreases-bare
decreases-bare l = length l.rest
