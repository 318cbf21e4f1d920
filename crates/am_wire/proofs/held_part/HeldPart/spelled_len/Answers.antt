use Rattle.std.proofs.Common.{arith}
use Rattle.am_wire.proofs.Parts.{part_spelled}
use Rattle.am_wire.proofs.held_part.HeldPart.spelled_len.Goals as goal

pub loop-place-preserved : goal.loop-place-preserved
loop-place-preserved c =
    part_spelled c.self.inside.held c.self.inside.from c.loop-place.place c.loop-place.total c.spelled_at.result c.saturating_add-total.result
    (omega (arith, c.loop-place.auto.place)) (omega (arith, c.loop-place-test.true, c.self.invariant.1))
    c.spelled_at.ensures c.loop-place.invariant c.saturating_add-total.ensures
