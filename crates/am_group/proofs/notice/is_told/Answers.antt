use Rattle.std.proofs.Common.{◌∙◌}
use Rattle.am_group.proofs.Telling.{told_by_search}
use Rattle.am_group.proofs.notice.is_told.Goals as goal

pub returns : goal.returns
returns c =
    c.is_ok.ensures.value
    ∙ told_by_search c.args.told.now c.args.labels.now c.binary_search.result c.as_slice.ensures.rising (rw c.as_slice.ensures.sets at c.binary_search.ensures.position) (rw c.as_slice.ensures.sets at c.binary_search.ensures.bound)
