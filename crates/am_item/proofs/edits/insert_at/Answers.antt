use Rattle.std.proofs.Common.{◌≤◌, ◌<◌, ◌^◌, length, arith, ap}
use Rattle.std.proofs.Math.Facts.{Fits-of_lt}
use Rattle.am_item.specs.Lengths.{kept_length, total_length}
use Rattle.am_item.proofs.Spelling.{more_fits}
use Rattle.am_item.proofs.edits.insert_at.Goals as goal

pub overflow_add-total : goal.overflow_add-total
overflow_add-total g c =
    let es = c.args.list.now.value.items in
    let few : length es < 2 ^ 64 = omega (arith, c.if-prove.false, ap length c.entries_of.ensures) in
    let so_far : c.args.total.now ≤ total_length g.K.Spelled.spelled g.V.Spelled.spelled es = omega (arith, c.requires.counted) in
    Fits-of_lt (more_fits (kept_length g.K.Spelled.spelled g.V.Spelled.spelled) es c.args.total.now c.spelled_len-more.result few so_far c.spelled_len-more.type_inv)
