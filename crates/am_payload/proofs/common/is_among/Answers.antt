use Rattle.std.proofs.Common.{◌∙◌}
use Rattle.am_payload.proofs.Among.{among_by_search}
use Rattle.am_payload.proofs.common.is_among.Goals as goal

pub returns : goal.returns
returns c =
    c.is_ok.ensures.value
    ∙ among_by_search c.args.labels.now c.args.label.now c.binary_search.result c.requires c.binary_search.ensures.position c.binary_search.ensures.bound
