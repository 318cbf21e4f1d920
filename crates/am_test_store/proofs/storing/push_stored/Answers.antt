use Rattle.std.proofs.Common.{◌∙◌, ◌++◌, ◌∷◌, [], ap, append-nil, map, sym}
use Rattle.am_test_store.specs.Pairs.{with_name}
use Rattle.am_test_store.proofs.PairLemmas.{none_stored, one_stored}
use Rattle.am_test_store.proofs.storing.push_stored.Goals as goal

pub returns : goal.returns
returns c =
    c.in_ok-push.ensures.items
    ∙ ap (λ x. c.args.pairs.now.items ++ (c.args.tenant.now, x) ∷ []) c.in_ok-share.ensures
    ∙ ap (λ xs. c.args.pairs.now.items ++ map (with_name c.args.tenant.now) xs) (sym (one_stored c.args.item.now (sym c.is_stored.ensures ∙ c.if-not-is_stored.false)))

pub returns-then-not-is_stored : goal.returns-then-not-is_stored
returns-then-not-is_stored c =
    sym (append-nil c.args.pairs.now.items)
    ∙ ap (λ xs. c.args.pairs.now.items ++ map (with_name c.args.tenant.now) xs) (sym (none_stored c.args.item.now (sym c.is_stored.ensures ∙ c.if-not-is_stored.true)))
