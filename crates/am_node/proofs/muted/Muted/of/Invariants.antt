use Rattle.std.proofs.Common.{◌≡◌, ℕ, List, true, take}
use Rattle.am_replica.specs.Holds.{holds_of}
use Rattle.am_pattern.specs.Asking.{Stays}
use Rattle.am_node.specs.Ticks.{AreMuted, has_muted, some_flush}
use Rattle.am_node.proofs.muted.Muted.of.Given as goal

abbrev pub invariant-loop-timer : goal.invariant-loop-timer
invariant-loop-timer l = record {
  right : AreMuted l.moment (λ t. (holds_of t l.fn.replica).held) l.muted;
  found : (t : List ℕ) → some_flush t (take l.timer-index l.due) ≡ true → has_muted t l.muted ≡ true;
  stays : l.replica ≡ l.fn.replica;
  asked : Stays l.fn.cache l.cache;
}
