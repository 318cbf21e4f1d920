use Rattle.am_match.proofs.CheckingLemmas.{refused_at}
use Rattle.am_match.proofs.checking.check_pattern.Goals as goal

pub returns-in-Err-Refused-clause-failure : goal.returns-in-Err-Refused-clause-failure
returns-in-Err-Refused-clause-failure c =
    let refused = c.in-Err-Refused in
    rw c.refusal_from.ensures
    (refused_at _ refused.refusal _ _ c.if-pattern-gt-MAX_PATTERN.false (rw refused.field-0-is at refused.ensures.refusal)
    (rw refused.field-0-is at refused.ensures.refused))
