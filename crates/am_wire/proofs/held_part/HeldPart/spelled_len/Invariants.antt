use Rattle.std.proofs.Common.{◌≡◌}
use Rattle.std.specs.List.{slice_range, sum_by}
use Rattle.am_length.specs.Capped.{capped}
use Rattle.am_item.specs.Lengths.{spelled_length}
use Rattle.am_wire.proofs.held_part.HeldPart.spelled_len.Given as goal

abbrev pub invariant-loop-place : goal.invariant-loop-place
invariant-loop-place l = l.total ≡ capped (sum_by spelled_length (slice_range l.self-inside.held l.self-inside.from l.place))
