use Rattle.std.proofs.Common.{sym, ap, ◌∙◌}
use Rattle.std.proofs.lemmas.Result.{err_from_is_err_and}
use Rattle.am_pattern.specs.Kept.{HasRegex}
use Rattle.am_match.specs.Checking.{unless_refused}
use Rattle.am_match.proofs.CheckingLemmas.{failure_read, failure_meant, fine_passes, all_short, long_refused, long_meant, patterns_of_fine, patterns_pass, has_long-patterns_of}
use Rattle.am_match.proofs.checking.check_patterns.Goals as goal

pub returns-in_err-check_short_patterns-clause-read : goal.returns-in_err-check_short_patterns-clause-read
returns-in_err-check_short_patterns-clause-read c =
    let p = err_from_is_err_and c.from_residual.result c.from_residual.ensures.1 in
    rw (p.1, p.2) (failure_read _ _ _ _ _ c.in_err-check_short_patterns.ensures.failure)

pub returns-in_err-check_short_patterns-clause-meaning : goal.returns-in_err-check_short_patterns-clause-meaning
returns-in_err-check_short_patterns-clause-meaning c =
    let p = err_from_is_err_and c.from_residual.result c.from_residual.ensures.1 in
    rw (p.1, p.2) (λ rightly. failure_meant _ _ _ _ _ c.in_err-check_short_patterns.ensures.failure rightly)

pub returns-then-has_long_pattern-clause-read : goal.returns-then-has_long_pattern-clause-read
returns-then-has_long_pattern-clause-read c =
    ap (λ refusal. unless_refused refusal _)
    (long_refused _ c.in_ok-check_short_patterns.ensures.fine
    (sym (has_long-patterns_of c.args.matchers.now) ∙ sym c.has_long_pattern.ensures ∙ c.if-has_long_pattern.true))

pub returns-then-has_long_pattern-clause-failure : goal.returns-then-has_long_pattern-clause-failure
returns-then-has_long_pattern-clause-failure c = (
  c.in_ok-check_short_patterns.ensures.fine,
  sym (has_long-patterns_of c.args.matchers.now) ∙ sym c.has_long_pattern.ensures ∙ c.if-has_long_pattern.true,
  c.in_ok-check_short_patterns.ensures.asked,
)

pub returns-then-has_long_pattern-clause-meaning : goal.returns-then-has_long_pattern-clause-meaning
returns-then-has_long_pattern-clause-meaning c =
    λ _. ap (λ refusal. unless_refused refusal _)
    (long_meant _ c.in_ok-check_short_patterns.ensures.fine
    (sym (has_long-patterns_of c.args.matchers.now) ∙ sym c.has_long_pattern.ensures ∙ c.if-has_long_pattern.true))

pub returns-clause-patterns : goal.returns-clause-patterns
returns-clause-patterns c =
    patterns_of_fine _ c.in_ok-check_short_patterns.ensures.fine
    (sym (has_long-patterns_of c.args.matchers.now) ∙ sym c.has_long_pattern.ensures ∙ c.if-has_long_pattern.false)

pub returns-clause-built : goal.returns-clause-built
returns-clause-built c =
    all_short HasRegex _ c.in_ok-check_short_patterns.ensures.built
    (sym (has_long-patterns_of c.args.matchers.now) ∙ sym c.has_long_pattern.ensures ∙ c.if-has_long_pattern.false)

pub returns-clause-read : goal.returns-clause-read
returns-clause-read c =
    ap (λ refusal. unless_refused refusal _)
    (fine_passes _ c.in_ok-check_short_patterns.ensures.fine
    (sym (has_long-patterns_of c.args.matchers.now) ∙ sym c.has_long_pattern.ensures ∙ c.if-has_long_pattern.false))

pub returns-clause-meaning : goal.returns-clause-meaning
returns-clause-meaning c =
    λ _. ap (λ refusal. unless_refused refusal _)
    (patterns_pass _
    (patterns_of_fine _ c.in_ok-check_short_patterns.ensures.fine
    (sym (has_long-patterns_of c.args.matchers.now) ∙ sym c.has_long_pattern.ensures ∙ c.if-has_long_pattern.false)))
