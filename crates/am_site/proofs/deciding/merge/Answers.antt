use Rattle.std.proofs.Common.{ap, sym, ◌∙◌}
use Rattle.std.proofs.lemmas.Result.{IfOk-weaker}
use Rattle.am_item.specs.Best.{merged}
use Rattle.am_item.proofs.BestLaws.{best-append}
use Rattle.am_site.proofs.deciding.merge.Goals as goal

pub returns : goal.returns
returns c =
    IfOk-weaker c.merged.result _ _
    (λ held is. is ∙ ap (λ xs. merged xs c.in_ok-second.second) c.in_ok-first.ensures ∙ ap (merged _) c.in_ok-second.ensures ∙ sym (best-append c.args.lists.now.first c.args.lists.now.second))
    c.merged.ensures
