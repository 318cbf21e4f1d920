use Rattle.std.proofs.Common.{◌≡◌, drop, length}
use Rattle.am_column.specs.Flags.{cleared}
use Rattle.am_column.proofs.flags.clear.Given as goal

abbrev pub invariant-loop-place : goal.invariant-loop-place
invariant-loop-place l =
    (cleared (drop l.place-index l.places) l.flags.items ≡ cleared l.places l.initial.flags.items)
    × (length l.flags.items ≡ length l.initial.flags.items)
