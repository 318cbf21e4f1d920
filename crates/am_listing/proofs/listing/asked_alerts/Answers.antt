use Rattle.std.proofs.lemmas.Result.{err_from_is_err_and}
use Rattle.am_listing.proofs.Chosen.{asked_are, asked_none}
use Rattle.am_listing.proofs.listing.asked_alerts.Goals as goal

pub returns-in_err-taken-in-Some-clause-failure : goal.returns-in_err-taken-in-Some-clause-failure
returns-in_err-taken-in-Some-clause-failure c =
    let p = err_from_is_err_and c.from_residual.result c.from_residual.ensures.1 in
    λ stored. rw (p.1, p.2, c.in-Some.is) (rw c.as_str.ensures at c.in_err-taken-in-Some.ensures.failure stored)

pub returns-in-None-clause-shown : goal.returns-in-None-clause-shown
returns-in-None-clause-shown c = rw c.in-None.is (asked_none c.args.config.now c.args.alerts.items)

pub returns-in_ok-chosen-in-Some-clause-shown : goal.returns-in_ok-chosen-in-Some-clause-shown
returns-in_ok-chosen-in-Some-clause-shown c =
    rw c.in-Some.is
    (asked_are c.args.config.now c.in-Some.pattern _ _ _ _ (rw c.as_str.ensures at c.in_ok-taken-in-Some.ensures.taken)
    (rw (c.deref.ensures.value, c.deref-in-Some.ensures.value) at c.in_ok-choice-in-Some.ensures) c.in_ok-chosen-in-Some.ensures)

pub returns-in_err-taken-in-Some-clause-adds : goal.returns-in_err-taken-in-Some-clause-adds
returns-in_err-taken-in-Some-clause-adds c =
    rw (err_from_is_err_and c.from_residual.result c.from_residual.ensures.1).1
    (rw c.in-Some.is (rw c.as_str.ensures at c.in_err-taken-in-Some.ensures.adds))
