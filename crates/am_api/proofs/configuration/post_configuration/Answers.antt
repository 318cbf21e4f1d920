use Rattle.std.proofs.Common.{arith, codes}
use Rattle.am_api.proofs.ConfigurationLemmas.{refusal_decides}
use Rattle.am_api.proofs.Adding.{configuration_adds, unasked_adds}
use Rattle.am_api.proofs.Accepting.{built_accepts, configuration_high, refusal_accepts}
use Rattle.am_api.proofs.configuration.post_configuration.Goals as goal

pub returns-in-Err-Refused-clause-decides : goal.returns-in-Err-Refused-clause-decides
returns-in-Err-Refused-clause-decides c =
    refusal_decides _ _ c.in-Err-Refused.refusal c.args.limits c.args.held.now c.args.moment c.args.maker c.args.document.now c.if-limits-document.false
    (rw c.in-Err-Refused.field-0-is at c.in-Err-Refused.ensures.failure)
    (rw c.in-Err-Refused.field-0-is at c.in-Err-Refused.ensures.meaning) c.refuse-in-Err-Refused.result
    (rw (c.status_of.ensures, c.code.ensures, c.in-Err-Refused.refusal-is) at c.refuse-in-Err-Refused.ensures)

pub returns-then-limits-document-clause-adds : goal.returns-then-limits-document-clause-adds
returns-then-limits-document-clause-adds c =
    unasked_adds _ _

pub returns-in-Err-Refused-clause-adds : goal.returns-in-Err-Refused-clause-adds
returns-in-Err-Refused-clause-adds c =
    configuration_adds _ _ _ _ c.in-Err-Refused.ensures.failure

pub returns-in-Err-OutOfMemory-clause-adds : goal.returns-in-Err-OutOfMemory-clause-adds
returns-in-Err-OutOfMemory-clause-adds c =
    configuration_adds _ _ _ _ c.in-Err-OutOfMemory.ensures.failure

pub returns-then-limits-document-clause-built : goal.returns-then-limits-document-clause-built
returns-then-limits-document-clause-built c =
    refusal_accepts _ 400 (codes "Li3") c.refuse.result (omega arith) c.refuse.ensures

pub returns-in_ok-text-in-Ok-clause-built : goal.returns-in_ok-text-in-Ok-clause-built
returns-in_ok-text-in-Ok-clause-built c = built_accepts _ c.store.result c.in-Ok.ensures.built

pub returns-in-Err-Refused-clause-built : goal.returns-in-Err-Refused-clause-built
returns-in-Err-Refused-clause-built c =
    refusal_accepts _ _ _ c.refuse-in-Err-Refused.result (configuration_high c.in-Err-Refused.refusal)
    (rw (c.status_of.ensures, c.code.ensures, c.in-Err-Refused.refusal-is) at c.refuse-in-Err-Refused.ensures)
