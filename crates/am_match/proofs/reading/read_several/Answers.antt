use Rattle.std.proofs.Common.{◌≡◌, ◌∙◌, sym, ap, Some, None, true, false}
use Rattle.am_match.specs.Reading.{one, is_end}
use Rattle.am_match.proofs.ReadingLemmas.{before, before-more, several-none, several-last, several-stuck, several-more, several-zero}
use Rattle.am_match.proofs.reading.read_several.Goals as goal

pub returns-in_default : goal.returns-in_default
returns-in_default c =
    let none : one c.several.rest.now ≡ None = rw c.in_default.is at c.in_ok-matcher.ensures in
    c.several.invariant ∙ ap (before c.several.matchers.items) (several-none _ _ _ c.several-test.true none)

pub returns-then-is_at_end : goal.returns-then-is_at_end
returns-then-is_at_end c =
    let found : one c.several.rest.now ≡ Some (c.in-Some.matcher, c.in-Some.behind.now) =
    rw c.in-Some.is at c.in_ok-matcher.ensures in
    let end : is_end c.args.braced c.in-Some.behind.now ≡ true = sym c.is_at_end.ensures ∙ c.if-is_at_end.true in
    rw c.in_ok-push.ensures.items
    (c.several.invariant
    ∙ ap (before c.several.matchers.items) (several-last _ _ _ _ _ c.several-test.true found end))

pub returns-in_default-read_comma : goal.returns-in_default-read_comma
returns-in_default-read_comma c =
    let found : one c.several.rest.now ≡ Some (c.in-Some.matcher, c.in-Some.behind.now) =
    rw c.in-Some.is at c.in_ok-matcher.ensures in
    let end : is_end c.args.braced c.in-Some.behind.now ≡ false = sym c.is_at_end.ensures ∙ c.if-is_at_end.false in
    c.several.invariant
    ∙ ap (before c.several.matchers.items)
    (several-stuck _ _ _ _ _ c.several-test.true found end c.in_default-read_comma.ensures)

pub several-preserved : goal.several-preserved
several-preserved c =
    let found : one c.several.rest.now ≡ Some (c.in-Some.matcher, c.in-Some.behind.now) =
    rw c.in-Some.is at c.in_ok-matcher.ensures in
    let end : is_end c.args.braced c.in-Some.behind.now ≡ false = sym c.is_at_end.ensures ∙ c.if-is_at_end.false in
    rw c.in_ok-push.ensures.items
    (c.several.invariant
    ∙ ap (before c.several.matchers.items)
    (several-more _ _ _ _ _ _ c.several-test.true found end c.in-Some-read_comma.ensures)
    ∙ before-more _ _ _)

pub returns : goal.returns
returns c = c.several.invariant ∙ ap (before c.several.matchers.items) (several-zero _ _ _ c.several-test.false)
