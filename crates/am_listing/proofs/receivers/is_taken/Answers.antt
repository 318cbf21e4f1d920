use Rattle.std.proofs.Common.{refl, arith}
use Rattle.am_muting.proofs.Failures.{adds_noted, adds_nothing}
use Rattle.am_listing.proofs.receivers.is_taken.Goals as goal

pub returns-in-Err-Refused-clause-adds : goal.returns-in-Err-Refused-clause-adds
returns-in-Err-Refused-clause-adds c =
    adds_noted _ _ _ c.args.pattern.now (0, omega arith, refl) (rw c.in-Err-Refused.field-0-is at c.in-Err-Refused.ensures.refused)

pub returns-in-Err-OutOfMemory-clause-adds : goal.returns-in-Err-OutOfMemory-clause-adds
returns-in-Err-OutOfMemory-clause-adds c =
    adds_nothing _ _ _ (rw c.in-Err-OutOfMemory.field-0-is at c.in-Err-OutOfMemory.ensures.refused)
