use Rattle.std.proofs.Common.{◌≡◌, ◌+◌, ◌++◌, ◌∷◌, [], ◌∙◌, length, take, ap, sym, arith}
use Rattle.std.proofs.Math.Seq.{take-length}
use Rattle.std.proofs.lemmas.List.{take_more}
use Rattle.am_item.specs.Best.{all_joined, joined}
use Rattle.am_item.proofs.Joining.{all_joined-push}
use Rattle.am_site.proofs.Limited.{bytes_known}
use Rattle.am_site.proofs.limiting.bytes_with.Goals as goal

pub loop-item-preserved : goal.loop-item-preserved
loop-item-preserved c =
    let i = c.loop-item.item-index in
    let xs = c.args.items.now in
    let x = c.item-item.result in
    let more : take (i + 1) xs ≡ take i xs ++ x ∷ [] = take_more xs i x c.loop-item-test.true ∙ rw (← c.item-item.is) in
    c.in_ok-put.ensures ∙ ap (λ held. joined held c.in_ok-item.item) c.loop-item.invariant
    ∙ ap (joined (all_joined c.args.list (take i xs))) c.in_ok-item.ensures
    ∙ sym (ap (all_joined c.args.list) more ∙ all_joined-push c.args.list (take i xs) x)

pub returns : goal.returns
returns c =
    let at : c.loop-item.item-index ≡ length c.args.items.now = omega arith in
    c.alert_bytes.ensures ∙ bytes_known c.loop-item.with
    ∙ rw (c.loop-item.invariant, at, take-length)
