use Rattle.std.proofs.Common.{◌≡◌, drop, false, length, replicate}
use Rattle.am_column.specs.Flags.{kept}
use Rattle.am_column.proofs.flags.keep.Given as goal

abbrev pub invariant-loop-place : goal.invariant-loop-place
invariant-loop-place l =
    (kept (drop l.place-index l.places) l.flags l.left.items ≡ kept l.places l.flags (replicate (length l.flags) false))
    × (length l.left.items ≡ length l.flags)
