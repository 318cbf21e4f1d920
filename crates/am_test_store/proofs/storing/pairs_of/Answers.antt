use Rattle.std.proofs.Common.{◌≡◌, ◌∙◌, [], ◌+◌, ◌∷◌, ◌++◌, ap, drop, map, sym}
use Rattle.std.proofs.lemmas.List.{append-nil, drop_all, drop_more}
use Rattle.am_rows.specs.Rows.{stored_in}
use Rattle.am_test_store.specs.Pairs.{with_name}
use Rattle.am_test_store.proofs.PairLemmas.{stored_more, no_items}
use Rattle.am_test_store.proofs.storing.pairs_of.Goals as goal

pub loop-item-preserved : goal.loop-item-preserved
loop-item-preserved c =
    let t = c.args.tenant.now in
    let item = c.item-item.result in
    let done = c.loop-item.pairs.items in
    let rest = drop (c.loop-item.item-index + 1) c.args.items.now in
    let next = drop_more c.args.items.now c.loop-item.item-index item c.loop-item-test.true ∙ ap (λ x. x ∷ rest) (sym c.item-item.is) in
    ap (λ ps. ps ++ map (with_name t) (stored_in rest)) c.in_ok-push_stored.ensures
    ∙ stored_more t done item rest
    ∙ ap (λ xs. done ++ map (with_name t) (stored_in xs)) (sym next)
    ∙ c.loop-item.invariant

pub returns : goal.returns
returns c =
    let t = c.args.tenant.now in
    let all : drop c.loop-item.item-index c.args.items.now ≡ [] = drop_all c.loop-item.item-index c.args.items.now c.loop-item-test.false in
    sym (append-nil c.loop-item.pairs.items)
    ∙ ap (λ xs. c.loop-item.pairs.items ++ map (with_name t) xs) (sym no_items)
    ∙ ap (λ xs. c.loop-item.pairs.items ++ map (with_name t) (stored_in xs)) (sym all)
    ∙ c.loop-item.invariant
