use Rattle.std.proofs.Common.{◌≡◌, ℕ, ◌<◌, ◌&&◌, false, get_or, length}
use Rattle.am_column.proofs.alike.left_by.Given as goal

abbrev pub invariant-loop-place : goal.invariant-loop-place
invariant-loop-place l =
    record {
      each : length l.left.items ≡ l.place;
      left : (k : ℕ) → k < l.place → get_or l.left.items k false ≡ (get_or l.taken k false && get_or l.firsts (get_or l.alike k 0) false);
    }
