use Rattle.std.proofs.Common.{◌≡◌, take}
use Rattle.std.specs.Str.Parse.{digits_value}
use Rattle.am_text.specs.Duration.{at_most_64_bits}
use Rattle.am_text.proofs.duration.read_number.Given as goal

abbrev pub invariant-loop-byte : goal.invariant-loop-byte
invariant-loop-byte l = l.number ≡ at_most_64_bits (digits_value 10 (take l.byte-index l.digits))
