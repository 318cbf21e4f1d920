use Rattle.std.proofs.Common.{ap, sum_by, ◌∙◌}
use Rattle.am_length.specs.Capped.{capped}
use Rattle.am_item.specs.Lengths.{kept_length}
use Rattle.am_item.proofs.Spelling.{capped_sum}
use Rattle.am_item.proofs.map.SharedMap.spelled_len.Goals as goal

pub returns : goal.returns
returns g c =
    let size = kept_length g.K.Spelled.spelled g.V.Spelled.spelled in
    c.min.ensures ∙ ap capped c.self.invariant.1 ∙ capped_sum size c.self.inside.list.value.items ∙ ap (λ es. capped (sum_by size es)) c.self.view_is
