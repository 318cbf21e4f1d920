use Rattle.std.proofs.Common.{◌≤◌, ◌<◌, ◌^◌, length, take, arith}
use Rattle.std.proofs.Math.Facts.{Fits-of_lt}
use Rattle.std.proofs.lemmas.List.{length-take}
use Rattle.am_item.specs.Lengths.{kept_length, total_length}
use Rattle.am_item.proofs.Spelling.{more_fits}
use Rattle.am_item.proofs.edits.total_len.Goals as goal

pub overflow_add-total : goal.overflow_add-total
overflow_add-total g c =
    let front = take c.loop-kept.kept-index c.args.entries.now in
    let few : length front < 2 ^ 64 = omega (arith, length-take c.loop-kept.kept-index c.args.entries.now) in
    let so_far : c.loop-kept.total ≤ total_length g.K.Spelled.spelled g.V.Spelled.spelled front = omega (arith, c.loop-kept.invariant) in
    Fits-of_lt (more_fits (kept_length g.K.Spelled.spelled g.V.Spelled.spelled) front c.loop-kept.total c.spelled_len.result few so_far c.spelled_len.type_inv)
