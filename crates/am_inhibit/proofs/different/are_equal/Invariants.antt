use Rattle.std.proofs.Common.{◌≡◌, length, take}
use Rattle.am_inhibit.proofs.different.are_equal.Given as goal

abbrev pub invariant-loop-place : goal.invariant-loop-place
invariant-loop-place l = take l.place l.one ≡ take l.place l.other
