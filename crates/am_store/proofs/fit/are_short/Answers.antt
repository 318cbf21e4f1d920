use Rattle.std.proofs.Common.{◌≡◌, ◌+◌, ◌∙◌, ◌++◌, ◌∷◌, [], subst, sym, take}
use Rattle.std.proofs.lemmas.List.{take_all, take_more}
use Rattle.std.proofs.lemmas.List.Elements.{All-get_or, All-push}
use Rattle.am_match.specs.Spelling.{IsShort}
use Rattle.am_store.proofs.fit.are_short.Goals as goal

pub loop-matcher-preserved : goal.loop-matcher-preserved
loop-matcher-preserved c =
    let xs = c.args.matchers.now in
    let i = c.loop-matcher.matcher-index in
    let x = c.matcher-item.result in
    let more : take (i + 1) xs ≡ take i xs ++ x ∷ [] = take_more xs i x c.loop-matcher-test.true ∙ rw (← c.matcher-item.is) in
    rw more (All-push IsShort (take i xs) x c.loop-matcher.invariant (c.is_short.ensures.fits c.if-not-is_short.false))

pub returns-clause-fits : goal.returns-clause-fits
returns-clause-fits c = λ all. rw (take_all c.loop-matcher.matcher-index c.args.matchers.now c.loop-matcher-test.false) at c.loop-matcher.invariant

pub returns-then-not-is_short-clause-unfit : goal.returns-then-not-is_short-clause-unfit
returns-then-not-is_short-clause-unfit c = λ _ all.
    c.is_short.ensures.unfit c.if-not-is_short.true
    (subst IsShort (sym c.matcher-item.is) (All-get_or IsShort c.args.matchers.now c.loop-matcher.matcher-index c.matcher-item.result c.loop-matcher-test.true all))
