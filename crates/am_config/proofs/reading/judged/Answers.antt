use Rattle.std.proofs.Common.{◌∙◌}
use Rattle.std.proofs.lemmas.Result.{IfOk-weaker, err_from_is_err_and}
use Rattle.am_pattern.proofs.AskingLemmas.{stays-refl}
use Rattle.am_config.specs.Matching.{matcher_lists, matchers_in}
use Rattle.am_config.proofs.Judgements.{after_is, early_failure, given_ok, late_result, stop_failure}
use Rattle.am_config.proofs.Lists.{made_of, texts_of}
use Rattle.am_config.proofs.reading.judged.Goals as goal

pub returns-in_err-terms-clause-failure : goal.returns-in_err-terms-clause-failure
returns-in_err-terms-clause-failure c =
    let p = err_from_is_err_and c.from_residual.result c.from_residual.ensures.1 in
    rw (p.1, p.2) (early_failure c.args.draft.now _ _ _ c.in_err-terms.ensures (stays-refl _))

pub returns-in_err-matchers-clause-failure : goal.returns-in_err-matchers-clause-failure
returns-in_err-matchers-clause-failure c =
    let p = err_from_is_err_and c.from_residual-in_err-matchers.result c.from_residual-in_err-matchers.ensures.1 in
    let texts = texts_of (λ list. list.now) c.deref.result.now c.args.draft.now (rw (← c.deref.ensures.value) at c.in_ok-lists.ensures) in
    rw (p.1, p.2)
    (stop_failure c.args.draft.now c.in_ok-terms.terms _ _ c.in_ok-terms.ensures _ (rw texts at c.in_err-matchers.ensures.stop))

pub completed-requires-clause-read : goal.completed-requires-clause-read
completed-requires-clause-read c =
    let texts = texts_of (λ list. list.now) c.deref.result.now c.args.draft.now (rw (← c.deref.ensures.value) at c.in_ok-lists.ensures) in
    rw texts at c.in_ok-matchers.ensures.read

pub completed-requires-clause-matchers : goal.completed-requires-clause-matchers
completed-requires-clause-matchers c =
    c.in_ok-matchers.ensures.matchers
    ∙ made_of matchers_in (λ list. list.now) c.deref.result.now (matcher_lists c.args.draft.now) (rw (← c.deref.ensures.value) at c.in_ok-lists.ensures)

pub returns-clause-ok : goal.returns-clause-ok
returns-clause-ok c =
    let texts = texts_of (λ list. list.now) c.deref.result.now c.args.draft.now (rw (← c.deref.ensures.value) at c.in_ok-lists.ensures) in
    rw (after_is c.args.draft.now c.in_ok-terms.terms c.in_ok-terms.ensures (rw texts at c.in_ok-matchers.ensures.read))
    (given_ok c.completed.result _ c.completed.ensures.value)

pub returns-clause-built : goal.returns-clause-built
returns-clause-built c =
    let texts = texts_of (λ list. list.now) c.deref.result.now c.args.draft.now (rw (← c.deref.ensures.value) at c.in_ok-lists.ensures) in
    IfOk-weaker c.completed.result _ _ (λ _ _. rw texts at c.in_ok-matchers.ensures.built) (returns-clause-ok c)

pub returns-clause-failure : goal.returns-clause-failure
returns-clause-failure c =
    let texts = texts_of (λ list. list.now) c.deref.result.now c.args.draft.now (rw (← c.deref.ensures.value) at c.in_ok-lists.ensures) in
    late_result c.args.draft.now c.in_ok-terms.terms _ _ c.in_ok-terms.ensures (rw texts at c.in_ok-matchers.ensures.read) c.completed.result
    c.in_ok-matchers.ensures.asked c.completed.ensures.value c.completed.ensures.late
