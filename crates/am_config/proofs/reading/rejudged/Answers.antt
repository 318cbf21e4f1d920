use Rattle.std.proofs.Common.{◌∙◌}
use Rattle.std.proofs.lemmas.Result.{err_from_is_err_and}
use Rattle.am_config.specs.Matching.{matcher_lists, matchers_in}
use Rattle.am_config.proofs.Judgements.{after_is, unread_failure}
use Rattle.am_config.proofs.Lists.{made_of, texts_of}
use Rattle.am_config.proofs.reading.rejudged.Goals as goal

pub returns-in_err-matchers : goal.returns-in_err-matchers
returns-in_err-matchers c =
    let p = err_from_is_err_and c.from_residual-in_err-matchers.result c.from_residual-in_err-matchers.ensures.1 in
    let texts = texts_of (λ list. list.now) c.deref.result.now c.args.draft.now (rw (← c.deref.ensures.value) at c.in_ok-lists.ensures) in
    rw (p.1, p.2)
    (unread_failure c.args.draft.now c.in_ok-terms.terms c.in_ok-terms.ensures _ (rw texts at c.in_err-matchers.ensures.refusal))

pub completed-requires-clause-read : goal.completed-requires-clause-read
completed-requires-clause-read c =
    let texts = texts_of (λ list. list.now) c.deref.result.now c.args.draft.now (rw (← c.deref.ensures.value) at c.in_ok-lists.ensures) in
    rw texts at c.in_ok-matchers.ensures.read

pub completed-requires-clause-matchers : goal.completed-requires-clause-matchers
completed-requires-clause-matchers c =
    c.in_ok-matchers.ensures.matchers
    ∙ made_of matchers_in (λ list. list.now) c.deref.result.now (matcher_lists c.args.draft.now) (rw (← c.deref.ensures.value) at c.in_ok-lists.ensures)

pub returns : goal.returns
returns c =
    let texts = texts_of (λ list. list.now) c.deref.result.now c.args.draft.now (rw (← c.deref.ensures.value) at c.in_ok-lists.ensures) in
    rw (after_is c.args.draft.now c.in_ok-terms.terms c.in_ok-terms.ensures (rw texts at c.in_ok-matchers.ensures.read)) c.completed.ensures.value
