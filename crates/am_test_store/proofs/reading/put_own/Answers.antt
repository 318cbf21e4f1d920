use Rattle.std.proofs.Common.{◌≡◌, ◌∙◌, ◌∷◌, List, [], OnOk, ap, subst, sym}
use Rattle.am_item.specs.Best.{all_joined}
use Rattle.am_item.specs.declared.item.Item.{Item}
use Rattle.am_rows.specs.Rows.{stored_in}
use Rattle.am_share.specs.Pairs.{things_of}
use Rattle.am_test_store.proofs.PairLemmas.{other_pair, own_pair}
use Rattle.am_test_store.proofs.reading.put_own.Goals as goal

pub returns-then-not-is_own : goal.returns-then-not-is_own
returns-then-not-is_own c =
    ap (all_joined c.args.held.now) (sym (other_pair c.args.tenant.now c.args.pair.now (sym c.is_own.ensures ∙ c.if-not-is_own.true)))

pub returns : goal.returns
returns c =
    let t = c.args.tenant.now in
    let p = c.args.pair.now in
    let own : stored_in (things_of t (p ∷ [])) ≡ c.in_ok-share.field-0 ∷ [] =
    own_pair t p (sym c.is_own.ensures ∙ c.if-not-is_own.false) ∙ ap (λ x. x ∷ []) (sym c.in_ok-share.ensures) in
    subst (λ (xs : List Item). OnOk c.put.result (c.put.new.held ≡ all_joined c.args.held.now xs)) (sym own) c.put.ensures
