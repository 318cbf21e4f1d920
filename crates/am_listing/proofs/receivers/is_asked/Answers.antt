use Rattle.std.proofs.Common.{◌≡◌, Bool, true, false, ◌||◌, refl, ◌∙◌}
use Rattle.std.proofs.lemmas.Result.{IfOk-weaker}
use Rattle.am_listing.proofs.receivers.is_asked.Goals as goal

or_false : (b : Bool) → b ≡ (b || false)
or_false true = refl
or_false false = refl

pub returns-in-Some-clause-asked_for : goal.returns-in-Some-clause-asked_for
returns-in-Some-clause-asked_for c =
    IfOk-weaker c.is_taken.result _ _ (λ taken is. rw c.in-Some.is (rw c.as_str.ensures at is ∙ or_false _)) c.is_taken.ensures.taken

pub returns-in-Some-clause-failure : goal.returns-in-Some-clause-failure
returns-in-Some-clause-failure c = λ stored. rw c.in-Some.is (rw c.as_str.ensures at c.is_taken.ensures.failure stored)

pub returns-in-Some-clause-adds : goal.returns-in-Some-clause-adds
returns-in-Some-clause-adds c = rw c.in-Some.is (rw c.as_str.ensures at c.is_taken.ensures.adds)
