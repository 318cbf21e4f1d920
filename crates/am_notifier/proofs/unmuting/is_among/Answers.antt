use Rattle.std.proofs.Common.{◌∙◌}
use Rattle.am_notifier.proofs.Unmuted.{among_by_search}
use Rattle.am_notifier.proofs.unmuting.is_among.Goals as goal

pub returns : goal.returns
returns c =
    c.is_ok.ensures.value
    ∙ among_by_search c.args.sets.now c.args.labels.now c.binary_search.result c.as_slice.ensures.rising (rw c.as_slice.ensures.sets at c.binary_search.ensures.position) (rw c.as_slice.ensures.sets at c.binary_search.ensures.bound)
