use Rattle.std.proofs.Common.{◌≡◌, ◌+◌, ◌<◌, ◌^◌, drop}
use Rattle.am_text.specs.Duration.{at_most_64_bits, parts_at}
use Rattle.am_text.proofs.duration.read_parts.Given as goal

abbrev pub invariant-loop-unit : goal.invariant-loop-unit
invariant-loop-unit l =
    record {
      fits : l.sum < 2 ^ 64;
      value : at_most_64_bits (l.sum + (parts_at (drop l.unit-index l.units) l.rest).0) ≡ at_most_64_bits (parts_at l.fn.units l.fn.text).0;
      rest : (parts_at (drop l.unit-index l.units) l.rest).1 ≡ (parts_at l.fn.units l.fn.text).1;
    }
