use Rattle.am_route.specs.Asked.{route_matchers}
use Rattle.am_muting.proofs.Failures.{adds_by, unanswered_matcher}
use Rattle.am_pattern.proofs.AskingLemmas.{stays-refl}
use Rattle.am_listing.proofs.receivers.routes_of_sets.Goals as goal

pub returns-in-Err-Refused-clause-failure : goal.returns-in-Err-Refused-clause-failure
returns-in-Err-Refused-clause-failure c =
    λ own. unanswered_matcher (route_matchers c.args.config.now.routes) _ _ c.in-Err-Refused.field-0-0
    (rw c.in-Err-Refused.field-0-is at c.in-Err-Refused.ensures.failure)

pub returns-in-Err-Refused-clause-adds : goal.returns-in-Err-Refused-clause-adds
returns-in-Err-Refused-clause-adds c =
    adds_by (route_matchers c.args.config.now.routes) _ _ _ _ _ (stays-refl _) (λ text there. there) c.in-Err-Refused.ensures.failure

pub returns-in-Err-OutOfMemory-clause-adds : goal.returns-in-Err-OutOfMemory-clause-adds
returns-in-Err-OutOfMemory-clause-adds c =
    adds_by (route_matchers c.args.config.now.routes) _ _ _ _ _ (stays-refl _) (λ text there. there) c.in-Err-OutOfMemory.ensures.failure
