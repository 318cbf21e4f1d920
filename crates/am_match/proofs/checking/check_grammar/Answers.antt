use Rattle.std.proofs.Common.{◌≡◌, ◌∙◌, ◌∷◌, [], All, sym, ap, true, false, length, arith}
use Rattle.std.proofs.Math.Seq.{take-length}
use Rattle.std.proofs.lemmas.Bool.{not-false, not-true}
use Rattle.am_pattern.specs.Taking.{is_shallow}
use Rattle.am_match.specs.Checking.{IsFine, unless_refused}
use Rattle.am_match.specs.Matchers.{patterns_of}
use Rattle.am_match.proofs.CheckingLemmas.{bad_at, all_more, short_here, short_without, fine_passes, long_refused, has_long-patterns_of}
use Rattle.am_match.proofs.checking.check_grammar.Goals.{in-Some+in_ok-is_shallow_pattern+else-not-branch, in_default}
use Rattle.am_match.proofs.checking.check_grammar.Goals as goal

pub returns-then-not-branch : goal.returns-then-not-branch
returns-then-not-branch c =
    let fails : is_shallow c.in-Some.pattern.now ≡ false = grind (arith, not-false, not-true) in
    ap (λ refusal. unless_refused refusal _)
    (bad_at _ _ _ _ c.loop-matcher-test.true c.matcher-item.is c.in-Some.ensures.0 c.in-Some.ensures.1 fails)

pub loop-matcher-preserved : goal.loop-matcher-preserved
loop-matcher-preserved c =
    let m = c.matcher-item.result in
    elim c.match-short_pattern.branch [
      | in-Some+in_ok-is_shallow_pattern+else-not-branch w ↦ all_more IsFine _ _ m c.loop-matcher-test.true c.matcher-item.is c.loop-matcher.invariant
          (short_here (λ p. is_shallow p ≡ true) m _ w.in-Some.ensures.0 (grind (arith, not-false, not-true)))
      | in_default w ↦ all_more IsFine _ _ m c.loop-matcher-test.true c.matcher-item.is c.loop-matcher.invariant
          (short_without (λ p. is_shallow p ≡ true) (patterns_of (m ∷ [])) w.in_default.ensures)
    ]

pub returns-then-has_long_pattern : goal.returns-then-has_long_pattern
returns-then-has_long_pattern c =
    let at : c.loop-matcher.matcher-index ≡ length c.args.matchers.now = omega arith in
    let fine : All IsFine (patterns_of c.args.matchers.now) = rw (at, take-length) at c.loop-matcher.invariant in
    ap (λ refusal. unless_refused refusal _)
    (long_refused _ fine (sym (has_long-patterns_of c.args.matchers.now) ∙ sym c.has_long_pattern.ensures ∙ c.if-has_long_pattern.true))

pub returns : goal.returns
returns c =
    let at : c.loop-matcher.matcher-index ≡ length c.args.matchers.now = omega arith in
    let fine : All IsFine (patterns_of c.args.matchers.now) = rw (at, take-length) at c.loop-matcher.invariant in
    ap (λ refusal. unless_refused refusal _)
    (fine_passes _ fine (sym (has_long-patterns_of c.args.matchers.now) ∙ sym c.has_long_pattern.ensures ∙ c.if-has_long_pattern.false))
