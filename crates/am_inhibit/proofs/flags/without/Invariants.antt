use Rattle.std.proofs.Common.{◌≡◌, ◌&&◌, ℕ, ◌<◌, false, get_or, length, not}
use Rattle.am_inhibit.proofs.flags.without.Given as goal

abbrev pub invariant-loop-place : goal.invariant-loop-place
invariant-loop-place l =
    record {
      each : length l.flags.items ≡ l.place;
      flags : (k : ℕ) → k < l.place → get_or l.flags.items k false ≡ (get_or l.one k false && not (get_or l.other k false));
    }
