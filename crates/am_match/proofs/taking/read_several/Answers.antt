use Rattle.std.proofs.Common.{◌∙◌}
use Rattle.std.proofs.lemmas.Result.{err_from_is_err_and}
use Rattle.am_match.proofs.TakingLemmas.{several-none, several-fails, several-more}
use Rattle.am_match.proofs.taking.read_several.Goals as goal

pub returns-in_err-matcher : goal.returns-in_err-matcher
returns-in_err-matcher c =
    let p = err_from_is_err_and c.from_residual.result c.from_residual.ensures.1 in
    rw (p.1, p.2, c.several.invariant) (several-fails _ _ _ _ c.several-test.true c.in_err-matcher.ensures)

pub several-preserved : goal.several-preserved
several-preserved c =
    rw c.in_ok-push.ensures.items
    (c.several.invariant ∙ several-more _ _ _ _ _ c.several-test.true c.in_ok-matcher.ensures)

pub returns : goal.returns
returns c = c.several.invariant ∙ several-none _ _ _ c.several-test.false
