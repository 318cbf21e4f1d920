use Rattle.std.proofs.Common.{◌≡◌, ◌+◌, ◌++◌, ◌∷◌, [], ◌∙◌, length, take, arith}
use Rattle.std.proofs.Math.Seq.{take-length}
use Rattle.std.proofs.lemmas.List.{take_more}
use Rattle.std.proofs.lemmas.List.Elements.{All-push}
use Rattle.am_wire.specs.ItemFields.{IsItem, item_bytes}
use Rattle.std.proofs.lemmas.Result.{err_from_is_err_and}
use Rattle.am_wire.proofs.Written.{bad_among, written_more}
use Rattle.am_wire.proofs.write_items.push_all.Goals as goal

pub loop-item-preserved : goal.loop-item-preserved
loop-item-preserved c =
    let i = c.loop-item.item-index in
    let xs = c.args.items.now in
    let m = c.item-item.result in
    let more : take (i + 1) xs ≡ take i xs ++ m ∷ [] = take_more xs i m c.loop-item-test.true ∙ rw (← c.item-item.is) in
    rw (more) (
      written_more item_bytes c.args.out.now.items _ _ (take i xs) m c.loop-item.invariant.0 c.in_ok-push_item.ensures.bytes,
      All-push IsItem (take i xs) m c.loop-item.invariant.1 c.in_ok-push_item.ensures.valid,
    )

pub returns-clause-valid : goal.returns-clause-valid
returns-clause-valid c =
    let at : c.loop-item.item-index ≡ length c.args.items.now = omega arith in
    rw (at, take-length) at c.loop-item.invariant.1

pub returns-in_err-push_item-clause-refused : goal.returns-in_err-push_item-clause-refused
returns-in_err-push_item-clause-refused c =
    let p = err_from_is_err_and c.from_residual.result c.from_residual.ensures.1 in
    rw (p.1, p.2)
    (bad_among c.in_err-push_item.field-0.0 c.args.items.now c.loop-item.item-index c.item-item.result c.loop-item-test.true c.item-item.is c.in_err-push_item.ensures.refused)
