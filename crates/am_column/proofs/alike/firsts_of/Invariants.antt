use Rattle.std.proofs.Common.{◌≡◌, ℕ, ◌<◌, true, false, get_or, length}
use Rattle.am_column.proofs.alike.firsts_of.Given as goal

abbrev pub invariant-loop-place : goal.invariant-loop-place
invariant-loop-place l =
    record {
      each : length l.firsts.items ≡ length l.taken;
      firsts : (k : ℕ) → k < l.place → get_or l.taken k false ≡ true → get_or l.firsts.items (get_or l.alike k 0) false ≡ true;
    }
