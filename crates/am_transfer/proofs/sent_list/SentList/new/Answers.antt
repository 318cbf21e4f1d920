use Rattle.std.proofs.Common.{◌≡◌, List, ap, sym, ◌∙◌, length, false}
use Rattle.am_item.specs.declared.item.Item.{Item}
use Rattle.am_transfer.specs.Pieces.{SentList, cut, items_in}
use Rattle.am_transfer.proofs.Cuts.{pieces_are_list}
use Rattle.am_transfer.proofs.sent_list.SentList.new.Goals as goal

pub invariant_of-result : goal.invariant_of-result
invariant_of-result c =
    let whole : items_in c.in_ok-cut.field-0.items ≡ c.args.held.now = ap items_in c.in_ok-cut.ensures ∙ pieces_are_list c.args.held.now in
    (c.in_ok-cut.ensures ∙ ap cut (sym whole), c.len.ensures ∙ ap length (sym whole))

pub returns : goal.returns
returns c =
    let whole : items_in c.in_ok-cut.field-0.items ≡ c.args.held.now = ap items_in c.in_ok-cut.ensures ∙ pieces_are_list c.args.held.now in
    ap (λ (items : List Item). let list : SentList = record { items = items; reached = 0; is_ended = false } in list) whole
