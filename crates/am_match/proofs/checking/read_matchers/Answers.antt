use Rattle.std.proofs.Common.{◌≡◌, ap, Some, chars}
use Rattle.std.proofs.lemmas.Result.{err_from_is_err_and}
use Rattle.am_match.specs.Checking.{unless_refused}
use Rattle.am_match.specs.Reading.{matchers_of}
use Rattle.am_match.proofs.CheckingLemmas.{failure_meant, patterns_pass}
use Rattle.am_match.proofs.checking.read_matchers.Goals as goal

pub returns-in_err-check_patterns-clause-meaning : goal.returns-in_err-check_patterns-clause-meaning
returns-in_err-check_patterns-clause-meaning c =
    let residual = c.from_residual-in_err-check_patterns in
    let p = err_from_is_err_and residual.result residual.ensures.1 in
    let spelled : matchers_of (chars c.args.text.now) ≡ Some c.in-Some.matchers.items =
    rw c.in-Some.is at c.in_ok-matchers.ensures in
    rw (p.1, p.2, spelled)
    (λ rightly. failure_meant _ _ _ _ _ (rw c.deref.ensures.value at c.in_err-check_patterns.ensures.failure) rightly)

pub returns-clause-meaning : goal.returns-clause-meaning
returns-clause-meaning c =
    let spelled : matchers_of (chars c.args.text.now) ≡ Some c.in-Some.matchers.items =
    rw c.in-Some.is at c.in_ok-matchers.ensures in
    λ _. rw spelled
    (ap (λ refusal. unless_refused refusal c.in-Some.matchers.items)
    (patterns_pass _ (rw c.deref.ensures.value at c.in_ok-check_patterns.ensures.patterns)))
