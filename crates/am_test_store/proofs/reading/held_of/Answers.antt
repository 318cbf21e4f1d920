use Rattle.std.proofs.Common.{◌≡◌, ◌∙◌, [], ◌+◌, ◌∷◌, ap, drop, sym}
use Rattle.std.proofs.lemmas.List.{drop_all, drop_more}
use Rattle.am_item.specs.Best.{all_joined}
use Rattle.am_rows.specs.Rows.{stored_in}
use Rattle.am_share.specs.Pairs.{things_of}
use Rattle.am_test_store.proofs.PairLemmas.{none_more, one_more, rows_joined}
use Rattle.am_test_store.proofs.reading.held_of.Goals as goal

pub loop-pair-init : goal.loop-pair-init
loop-pair-init c = rw c.in_ok-held.ensures (rows_joined c.args.tenant.now c.args.pairs.now)

pub loop-pair-preserved : goal.loop-pair-preserved
loop-pair-preserved c =
    let t = c.args.tenant.now in
    let pair = c.pair-item.result in
    let rest = drop (c.loop-pair.pair-index + 1) c.args.pairs.now in
    let next = drop_more c.args.pairs.now c.loop-pair.pair-index pair c.loop-pair-test.true ∙ ap (λ p. p ∷ rest) (sym c.pair-item.is) in
    ap (λ h. all_joined h (stored_in (things_of t rest))) c.in_ok-put_own.ensures
    ∙ one_more t c.loop-pair.held pair rest
    ∙ ap (λ ps. all_joined c.loop-pair.held (stored_in (things_of t ps))) (sym next)
    ∙ c.loop-pair.invariant

pub returns : goal.returns
returns c =
    let t = c.args.tenant.now in
    let all : drop c.loop-pair.pair-index c.args.pairs.now ≡ [] = drop_all c.loop-pair.pair-index c.args.pairs.now c.loop-pair-test.false in
    sym (none_more t c.loop-pair.held)
    ∙ ap (λ ps. all_joined c.loop-pair.held (stored_in (things_of t ps))) (sym all)
    ∙ c.loop-pair.invariant
