use Rattle.std.proofs.Common.{refl}
use Rattle.am_gateway.proofs.SortingLemmas.{notice_more, on_err, queues_some, reply_more}
use Rattle.am_gateway.proofs.sorting.sort.Goals as goal

pub loop-output-preserved-in-Reply : goal.loop-output-preserved-in-Reply
loop-output-preserved-in-Reply c =
    reply_more _ _ _ _ _ _ _ _ _ _ _ c.in_ok-reply-in-Reply.ensures.reply c.in_ok-reply-in-Reply.ensures.kept
    (rw (c.in-Some.ensures.steps.0, c.in-Reply.is) at c.loop-output.invariant)

pub loop-output-preserved-in-Continue-branch-2 : goal.loop-output-preserved-in-Continue-branch-2
loop-output-preserved-in-Continue-branch-2 c =
    notice_more _ _ _ _ _ _ _ _ _ _ c.in_ok-line_up-in-Notice.ensures.queued c.line_up.ensures.under_way
    (rw (c.in-Some.ensures.steps.0, c.in-Notice.is) at c.loop-output.invariant)

pub returns-in_err-reply-in-Reply-clause-err : goal.returns-in_err-reply-in-Reply-clause-err
returns-in_err-reply-in-Reply-clause-err c =
    on_err c.from_residual.result (queues_some _ _ _ _ _ _ _ _ _ (λ t. refl) c.loop-output.invariant)

pub returns-in_err-line_up-in-Notice-clause-err : goal.returns-in_err-line_up-in-Notice-clause-err
returns-in_err-line_up-in-Notice-clause-err c =
    on_err c.from_residual-in_err-line_up-in-Notice.result (queues_some _ _ _ _ _ _ _ _ _ c.in_err-line_up-in-Notice.ensures.err c.loop-output.invariant)
