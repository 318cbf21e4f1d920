use Rattle.am_tenant.proofs.Same.{same-refl}
use Rattle.am_node.proofs.muted.sets_of.Goals as goal

pub returns-in-Err-Refused-clause-fault : goal.returns-in-Err-Refused-clause-fault
returns-in-Err-Refused-clause-fault c = (
  c.args.tenant.now,
  same-refl c.args.tenant.now,
  rw (c.in-Err-Refused.field-0-is, c.in_ok-held.ensures.held, c.in_ok-held.ensures.configuration) at c.in-Err-Refused.ensures.failure,
)
