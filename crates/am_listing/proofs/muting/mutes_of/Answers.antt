use Rattle.am_listing.proofs.muting.mutes_of.Goals as goal

pub returns-in-Err-Refused-clause-failure : goal.returns-in-Err-Refused-clause-failure
returns-in-Err-Refused-clause-failure c = λ own. rw c.in-Err-Refused.field-0-is at c.in-Err-Refused.ensures.failure
