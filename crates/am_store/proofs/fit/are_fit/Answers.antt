use Rattle.std.proofs.Common.{◌≡◌, ◌+◌, ◌∙◌, ◌++◌, ◌∷◌, [], subst, sym, take}
use Rattle.std.proofs.lemmas.List.{take_all, take_more}
use Rattle.std.proofs.lemmas.List.Elements.{All-get_or, All-push}
use Rattle.am_rows.specs.Fit.{IsFit}
use Rattle.am_store.proofs.fit.are_fit.Goals as goal

pub loop-item-preserved : goal.loop-item-preserved
loop-item-preserved c =
    let xs = c.args.items.now in
    let i = c.loop-item.item-index in
    let x = c.item-item.result in
    let more : take (i + 1) xs ≡ take i xs ++ x ∷ [] = take_more xs i x c.loop-item-test.true ∙ rw (← c.item-item.is) in
    rw more (All-push IsFit (take i xs) x c.loop-item.invariant (c.is_fit.ensures.fits c.if-not-is_fit.false))

pub returns-clause-fits : goal.returns-clause-fits
returns-clause-fits c = λ all. rw (take_all c.loop-item.item-index c.args.items.now c.loop-item-test.false) at c.loop-item.invariant

pub returns-then-not-is_fit-clause-unfit : goal.returns-then-not-is_fit-clause-unfit
returns-then-not-is_fit-clause-unfit c = λ _ all.
    c.is_fit.ensures.unfit c.if-not-is_fit.true
    (subst IsFit (sym c.item-item.is) (All-get_or IsFit c.args.items.now c.loop-item.item-index c.item-item.result c.loop-item-test.true all))
