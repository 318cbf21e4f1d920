use Rattle.std.proofs.lemmas.Result.{err_from_is_err_and}
use Rattle.am_config.proofs.Stops.{refused_among}
use Rattle.am_config.proofs.matching.reread_lists.Goals as goal

pub returns-in_err-matchers-clause-refusal : goal.returns-in_err-matchers-clause-refusal
returns-in_err-matchers-clause-refusal c =
    let p = err_from_is_err_and c.from_residual-in_err-matchers.result c.from_residual-in_err-matchers.ensures.1 in
    rw (p.1, p.2)
    (refused_among (λ list. list.now) _ _ _ c.loop-list-test.true c.list-item.is _ c.in_err-matchers.ensures.refusal)
