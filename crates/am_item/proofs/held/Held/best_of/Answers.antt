use Rattle.std.proofs.Common.{◌≡◌, ◌+◌, ◌++◌, ◌∷◌, [], ◌∙◌, length, take, ap, sym, arith, rules}
use Rattle.std.proofs.Math.Seq.{take-length}
use Rattle.std.proofs.lemmas.List.{take_more}
use Rattle.std.specs.List.Sorted.{IsStrictlySortedBy}
use Rattle.am_item.specs.Best.{all_joined, joined}
use Rattle.am_item.proofs.Joining.{all_joined-merged, all_joined-push}
use Rattle.am_item.proofs.held.Held.best_of.Goals as goal

pub loop-item-preserved : goal.loop-item-preserved
loop-item-preserved c =
    let i = c.loop-item.item-index in
    let xs = c.args.items.now in
    let x = c.item-item.result in
    let more : take (i + 1) xs ≡ take i xs ++ x ∷ [] = take_more xs i x c.loop-item-test.true ∙ rw (← c.item-item.is) in
    c.in_ok-add.ensures ∙ ap (λ held. joined held c.in_ok-item.item) c.loop-item.invariant ∙ ap (joined (all_joined [] (take i xs))) c.in_ok-item.ensures
    ∙ sym (ap (all_joined []) more ∙ all_joined-push [] (take i xs) x)

pub returns : goal.returns
unfolding IsStrictlySortedBy
returns c =
    let at : c.loop-item.item-index ≡ length c.args.items.now = omega arith in
    c.loop-item.invariant ∙ rw (at, take-length) (all_joined-merged [] c.args.items.now (search rules))
