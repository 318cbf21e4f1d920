use Rattle.std.proofs.Common.{◌≡◌, ℕ, ◌+◌, ◌<◌, false, get_or, length}
use Rattle.am_ring.specs.Instances.{is_among}
use Rattle.am_ring.proofs.ring.flags_of.Given as goal

abbrev pub invariant-loop-index : goal.invariant-loop-index
invariant-loop-index l = record {
  eight : length l.flags ≡ 8;
  below : (k : ℕ) → k < l.index → get_or l.flags k false ≡ is_among (k + 1) l.numbers;
}
