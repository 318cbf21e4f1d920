use Rattle.std.proofs.Common.{◌≡◌, drop}
use Rattle.am_labels.specs.Hashes.{fnv32, fnv32_from}
use Rattle.am_labels.proofs.hash.fnv32.Given as goal

abbrev pub invariant-loop-byte : goal.invariant-loop-byte
invariant-loop-byte l = fnv32_from l.hash (drop l.byte-index l.bytes) ≡ fnv32 l.bytes
