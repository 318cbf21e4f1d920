use Rattle.std.proofs.lemmas.Result.{err_from_is_err_and}
use Rattle.am_pattern.proofs.AskingLemmas.{stays-refl}
use Rattle.am_silence.proofs.DecidingLemmas.{behind, named_decide, none_decides}
use Rattle.am_silence.proofs.PostedLemmas.{asking_failed, patterns_failed}
use Rattle.am_silence.proofs.posted.matchers_judged.Goals as goal

pub returns-clause-built : goal.returns-clause-built
returns-clause-built c = rw c.in_ok-matchers.ensures.read (rw c.deref.ensures.value at c.in_ok-check.ensures.built)

pub returns-in_err-check-clause-read : goal.returns-in_err-check-clause-read
returns-in_err-check-clause-read c =
    let p = err_from_is_err_and c.from_residual-in_err-check.result c.from_residual-in_err-check.ensures.1 in
    rw (p.1, p.2)
    (patterns_failed c.args.written.now c.in_ok-matchers.matchers.items c.check.new.cache.refused _ c.in_ok-matchers.ensures.read
    (rw c.deref.ensures.value at c.in_err-check.ensures.read))

pub returns-in_err-takes_empty-clause-read : goal.returns-in_err-takes_empty-clause-read
returns-in_err-takes_empty-clause-read c =
    let p = err_from_is_err_and c.from_residual-in_err-takes_empty.result c.from_residual-in_err-takes_empty.ensures.1 in
    rw (p.1, p.2)
    (asking_failed c.args.written.now c.in_ok-matchers.matchers.items c.takes_empty.new.cache.refused _ _ c.in_ok-matchers.ensures.read
    (rw c.deref-2.ensures.value at c.in_err-takes_empty.ensures.unbuilt))

pub returns-in_err-matchers-clause-first : goal.returns-in_err-matchers-clause-first
returns-in_err-matchers-clause-first c =
    let p = err_from_is_err_and c.from_residual.result c.from_residual.ensures.1 in
    rw (p.1, p.2) (none_decides _ _ _ _ (stays-refl _) c.in_err-matchers.ensures.other)

pub returns-in_err-check-clause-first : goal.returns-in_err-check-clause-first
returns-in_err-check-clause-first c =
    let p = err_from_is_err_and c.from_residual-in_err-check.result c.from_residual-in_err-check.ensures.1 in
    rw (p.1, p.2)
    (named_decide c.args.written.now c.in_ok-matchers.matchers.items c.args.cache.now c.check.new.cache _ c.in_ok-matchers.ensures.read
    (rw c.deref.ensures.value at c.in_err-check.ensures.first))

pub returns-in_err-takes_empty-clause-first : goal.returns-in_err-takes_empty-clause-first
returns-in_err-takes_empty-clause-first c =
    let p = err_from_is_err_and c.from_residual-in_err-takes_empty.result c.from_residual-in_err-takes_empty.ensures.1 in
    rw (p.1, p.2)
    (named_decide c.args.written.now c.in_ok-matchers.matchers.items c.args.cache.now c.takes_empty.new.cache _ c.in_ok-matchers.ensures.read
    (behind _ c.args.cache.now c.check.new.cache c.takes_empty.new.cache _ c.in_ok-check.ensures.asked
    (rw c.deref-2.ensures.value at c.in_err-takes_empty.ensures.first)))
