use Rattle.std.proofs.Common.{◌≡◌, ◌||◌, ℕ, ◌<◌, ◌≤◌, false, get_or, length}
use Rattle.am_inhibit.proofs.flags.join.Given as goal

abbrev pub invariant-loop-place : goal.invariant-loop-place
invariant-loop-place l =
    record {
      each : length l.flags.items ≡ length l.initial.flags.items;
      joined : (k : ℕ) → k < l.place → get_or l.flags.items k false ≡ (get_or l.initial.flags.items k false || get_or l.others k false);
      rest : (k : ℕ) → l.place ≤ k → get_or l.flags.items k false ≡ get_or l.initial.flags.items k false;
    }
