use Rattle.std.proofs.Common.{◌≡◌, drop}
use Rattle.am_labels.specs.Hashes.{fnv64_from}
use Rattle.am_labels.proofs.hash.fnv64_from.Given as goal

abbrev pub invariant-loop-byte : goal.invariant-loop-byte
invariant-loop-byte l = fnv64_from l.hash (drop l.byte-index l.bytes) ≡ fnv64_from l.fn.hash l.bytes
