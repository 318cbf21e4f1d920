use Rattle.std.proofs.Common.{length, ◌-◌, ◌≤◌}
use Rattle.am_stream.proofs.loopback.read_all.Given as goal

abbrev pub invariant-loop-count : goal.invariant-loop-count
invariant-loop-count g l = record { fits : l.count ≤ length l.buffer }

abbrev pub decreases-loop-count : goal.decreases-loop-count
decreases-loop-count g l = length l.initial.buffer - l.count
