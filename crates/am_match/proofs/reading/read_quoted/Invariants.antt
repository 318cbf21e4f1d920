use Rattle.std.proofs.Common.{◌≡◌, ◌++◌, length, string_bytes, option_map, false}
use Rattle.am_match.specs.Reading.{quoted}
use Rattle.am_match.specs.InBytes.{in_bytes}
use Rattle.am_match.proofs.reading.read_quoted.Given as goal

abbrev pub invariant-quoted : goal.invariant-quoted
invariant-quoted l =
    in_bytes (quoted false l.fn.text)
    ≡ option_map (λ p. (string_bytes l.read ++ p.0, p.1)) (in_bytes (quoted l.escaped l.rest))

abbrev pub decreases-quoted : goal.decreases-quoted
decreases-quoted l = length l.rest
