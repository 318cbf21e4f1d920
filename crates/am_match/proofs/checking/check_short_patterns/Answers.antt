use Rattle.std.proofs.Common.{◌≡◌, ◌∷◌, [], true, length, arith}
use Rattle.std.proofs.Math.Seq.{take-length}
use Rattle.std.proofs.lemmas.Result.{err_from_is_err_and}
use Rattle.am_pattern.specs.Kept.{HasRegex}
use Rattle.am_pattern.specs.Taking.{is_shallow}
use Rattle.am_pattern.proofs.AskingLemmas.{stays-trans}
use Rattle.am_match.specs.Checking.{IsFine, WhereShort}
use Rattle.am_match.specs.Matchers.{patterns_of}
use Rattle.am_match.proofs.CheckingLemmas.{failure_among, all_more, short_here, short_without}
use Rattle.am_match.proofs.checking.check_short_patterns.Goals.{in-Some+in_ok-check_pattern, in_default}
use Rattle.am_match.proofs.checking.check_short_patterns.Goals as goal

pub returns-in_err-check_pattern-clause-failure : goal.returns-in_err-check_pattern-clause-failure
returns-in_err-check_pattern-clause-failure c =
    let p = err_from_is_err_and c.from_residual.result c.from_residual.ensures.1 in
    rw (p.1, p.2)
    (failure_among _ _ _ _ _ _ _ _ c.loop-matcher-test.true c.matcher-item.is c.loop-matcher.invariant.fine c.in-Some.ensures.0
    c.in-Some.ensures.1 c.loop-matcher.invariant.stays c.in_err-check_pattern.ensures.failure)

pub loop-matcher-preserved : goal.loop-matcher-preserved
loop-matcher-preserved c =
    let before = c.loop-matcher.invariant in
    let m = c.matcher-item.result in
    elim c.match-short_pattern.branch [
      | in-Some+in_ok-check_pattern w ↦ rw w.cache-is (record {
        stays = stays-trans _ _ _ before.stays w.in_ok-check_pattern.ensures.asked;
        fine = all_more IsFine _ _ m c.loop-matcher-test.true c.matcher-item.is before.fine
            (short_here (λ p. is_shallow p ≡ true) m _ w.in-Some.ensures.0 w.in_ok-check_pattern.ensures.shallow);
        built = all_more (WhereShort HasRegex) _ _ m c.loop-matcher-test.true c.matcher-item.is before.built
            (short_here HasRegex m _ w.in-Some.ensures.0 w.in_ok-check_pattern.ensures.built);
      })
      | in_default w ↦ rw w.cache-is (record {
        stays = before.stays;
        fine = all_more IsFine _ _ m c.loop-matcher-test.true c.matcher-item.is before.fine
            (short_without (λ p. is_shallow p ≡ true) (patterns_of (m ∷ [])) w.in_default.ensures);
        built = all_more (WhereShort HasRegex) _ _ m c.loop-matcher-test.true c.matcher-item.is before.built
            (short_without HasRegex (patterns_of (m ∷ [])) w.in_default.ensures);
      })
    ]

pub returns-clause-fine : goal.returns-clause-fine
returns-clause-fine c =
    let at : c.loop-matcher.matcher-index ≡ length c.args.matchers.now = omega arith in
    rw (at, take-length) at c.loop-matcher.invariant.fine

pub returns-clause-built : goal.returns-clause-built
returns-clause-built c =
    let at : c.loop-matcher.matcher-index ≡ length c.args.matchers.now = omega arith in
    rw (at, take-length) at c.loop-matcher.invariant.built
