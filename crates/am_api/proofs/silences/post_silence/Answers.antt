use Rattle.std.proofs.Common.{◌≡◌, [], nat_lt, false, length, arith, codes}
use Rattle.am_silence.specs.Posted.{posted}
use Rattle.std.proofs.lemmas.Bool.Decides.{nat_tests}
use Rattle.am_api.proofs.Adding.{silence_adds, stays_adds, unasked_adds}
use Rattle.am_api.proofs.Replies.{silence_refused}
use Rattle.am_api.proofs.Accepting.{built_accepts, refusal_accepts, silence_high}
use Rattle.am_api.proofs.silences.post_silence.Goals as goal

pub returns-in-Err-Refused-clause-decides : goal.returns-in-Err-Refused-clause-decides
returns-in-Err-Refused-clause-decides c =
    let fits : nat_lt c.args.limits.silence (length c.args.body.now) ≡ false = grind (arith, nat_tests) in
    rw fits
    (silence_refused c.args.body.now c.args.limits c.args.cache.now c.read_silence.new.cache [] c.in-Err-Refused.reason c.args.limits.silences
    c.args.held.now c.args.moment c.args.maker c.args.words (posted c.args.moment c.args.body.now) c.refuse_for.result c.if-limits-body.false
    (rw c.in-Err-Refused.field-0-is at c.in-Err-Refused.ensures.read)
    (rw c.in-Err-Refused.field-0-is at c.in-Err-Refused.ensures.first)
    (rw c.in-Err-Refused.reason-is at c.refuse_for.ensures))

pub returns-then-limits-body-clause-adds : goal.returns-then-limits-body-clause-adds
returns-then-limits-body-clause-adds c =
    unasked_adds _ _

pub returns-in-Ok-clause-adds : goal.returns-in-Ok-clause-adds
returns-in-Ok-clause-adds c =
    stays_adds _ _ _ c.in-Ok.ensures.asked

pub returns-in-Err-Refused-clause-adds : goal.returns-in-Err-Refused-clause-adds
returns-in-Err-Refused-clause-adds c =
    silence_adds _ _ _ _ c.in-Err-Refused.ensures.first

pub returns-in-Err-OutOfMemory-clause-adds : goal.returns-in-Err-OutOfMemory-clause-adds
returns-in-Err-OutOfMemory-clause-adds c =
    silence_adds _ _ _ _ c.in-Err-OutOfMemory.ensures.first

pub returns-then-limits-body-clause-built : goal.returns-then-limits-body-clause-built
returns-then-limits-body-clause-built c =
    refusal_accepts _ 400 (codes "Li4") c.refuse.result (omega arith) c.refuse.ensures

pub returns-in-Ok-clause-built : goal.returns-in-Ok-clause-built
returns-in-Ok-clause-built c = built_accepts _ c.store_posted.result c.in-Ok.ensures.built

pub returns-in-Err-Refused-clause-built : goal.returns-in-Err-Refused-clause-built
returns-in-Err-Refused-clause-built c =
    refusal_accepts _ _ _ c.refuse_for.result (silence_high c.in-Err-Refused.reason)
    (rw c.in-Err-Refused.reason-is at c.refuse_for.ensures)
