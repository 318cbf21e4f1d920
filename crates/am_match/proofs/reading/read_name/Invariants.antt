use Rattle.std.proofs.Common.{◌≡◌, ◌++◌, length, string_bytes}
use Rattle.am_match.specs.Reading.{run, is_in_name}
use Rattle.am_match.proofs.reading.read_name.Given as goal

abbrev pub invariant-name : goal.invariant-name
invariant-name l =
    ((run is_in_name l.fn.text).0 ≡ string_bytes l.name ++ (run is_in_name l.rest).0)
    × ((run is_in_name l.fn.text).1 ≡ (run is_in_name l.rest).1)

abbrev pub decreases-name : goal.decreases-name
decreases-name l = length l.rest
