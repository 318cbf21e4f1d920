use Rattle.std.proofs.Common.{◌≡◌, take}
use Rattle.std.specs.List.{flat_map}
use Rattle.am_labels.specs.Hashes.{fnv64, label_bytes}
use Rattle.am_labels.proofs.hash.fingerprint_of.Given as goal

abbrev pub invariant-loop-label : goal.invariant-loop-label
invariant-loop-label l = l.hash ≡ fnv64 (flat_map label_bytes (take l.label-index l.labels))
