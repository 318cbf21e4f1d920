use Rattle.am_muting.proofs.Failures.{adds_by, unanswered_matcher}
use Rattle.am_listing.proofs.Failures.{refused_pattern}
use Rattle.am_pattern.proofs.AskingLemmas.{stays-refl}
use Rattle.am_listing.proofs.listing.flags_of.Goals as goal

pub returns-in-Err-Refused-clause-failure : goal.returns-in-Err-Refused-clause-failure
returns-in-Err-Refused-clause-failure c =
    λ stored. refused_pattern _ _ c.requires.patterns
    (unanswered_matcher c.args.matchers.now _ _ c.in-Err-Refused.field-0-0 (rw c.in-Err-Refused.field-0-is at c.in-Err-Refused.ensures.failure))

pub returns-in-Err-Refused-clause-adds : goal.returns-in-Err-Refused-clause-adds
returns-in-Err-Refused-clause-adds c =
    adds_by c.args.matchers.now _ _ _ _ _ (stays-refl _) (λ text there. there) c.in-Err-Refused.ensures.failure

pub returns-in-Err-OutOfMemory-clause-adds : goal.returns-in-Err-OutOfMemory-clause-adds
returns-in-Err-OutOfMemory-clause-adds c =
    adds_by c.args.matchers.now _ _ _ _ _ (stays-refl _) (λ text there. there) c.in-Err-OutOfMemory.ensures.failure
