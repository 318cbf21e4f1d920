use Rattle.std.proofs.lemmas.Result.{err_from_is_err_and}
use Rattle.am_muting.proofs.Failures.{adds_behind}
use Rattle.am_listing.proofs.receivers.taken_receivers.Goals as goal

pub returns-in_err-is_taken-clause-failure : goal.returns-in_err-is_taken-clause-failure
returns-in_err-is_taken-clause-failure c =
    let p = err_from_is_err_and c.from_residual-in_err-is_taken.result c.from_residual-in_err-is_taken.ensures.1 in
    λ stored. rw (p.1, p.2) (c.in_err-is_taken.ensures.failure stored)

pub returns-in_err-is_taken-clause-adds : goal.returns-in_err-is_taken-clause-adds
returns-in_err-is_taken-clause-adds c =
    rw (err_from_is_err_and c.from_residual-in_err-is_taken.result c.from_residual-in_err-is_taken.ensures.1).1
    (adds_behind _ _ _ _ c.loop-receiver.invariant.stays c.in_err-is_taken.ensures.adds)
