use Rattle.std.proofs.Common.{ap, map, rules, subst, sym, ◌++◌, ◌∷◌, [], ◌∙◌}
use Rattle.std.proofs.lemmas.List.{map-append}
use Rattle.am_item.specs.Key.{key_of}
use Rattle.am_store.specs.Reading.{silence_key}
use Rattle.am_store.specs.Rows.{IsSilenceRow, silence_in}
use Rattle.am_store.specs.Stored.{stored_items}
use Rattle.am_store.proofs.KeyOrder.{key_stored, one_key_more, rise_so_far}
use Rattle.am_store.proofs.RowsOf.{one_more, pushed}
use Rattle.am_store.proofs.rows.push_silences.Goals as goal

pub loop-row-preserved : goal.loop-row-preserved
loop-row-preserved c =
    let row = c.row-item.result in
    let item = c.in_ok-item.item in
    let items = c.loop-row.items.items in
    let read = c.in_ok-item.ensures.reads in (
      (λ rose. c.in_ok-push.ensures.rising (c.loop-row.invariant.0 rose)),
      ap stored_items c.in_ok-push.ensures.items
          ∙ pushed items item (silence_in row).1 read.item_is
          ∙ ap (λ done. done ++ (silence_in row).1 ∷ []) c.loop-row.invariant.1
          ∙ one_more (λ r. (silence_in r).1) c.args.rows.now c.loop-row.row-index row (stored_items c.args.items.now.items) c.loop-row-test.true c.row-item.is,
      ap (map key_of) c.in_ok-push.ensures.items
          ∙ map-append key_of items (item ∷ [])
          ∙ one_key_more silence_key c.args.rows.now c.loop-row.row-index row (map key_of c.args.items.now.items) (map key_of items) (key_of item)
          c.loop-row-test.true c.row-item.is c.loop-row.invariant.2 (key_stored item (silence_in row).1 read.item_is),
    )

pub returns-in_err-item-clause-given : goal.returns-in_err-item-clause-given
returns-in_err-item-clause-given c all rise =
    let row = c.row-item.result in
    let is : IsSilenceRow row = subst IsSilenceRow (sym c.row-item.is) (all c.loop-row.row-index row c.loop-row-test.true) in
    let given = c.in_err-item.ensures.given is in
    search rules

pub returns-in_err-push-clause-given : goal.returns-in_err-push-clause-given
returns-in_err-push-clause-given c all rise =
    let row = c.row-item.result in
    let item = c.in_ok-item.item in
    let read = c.in_ok-item.ensures.reads in
    let given = c.in_err-push.ensures.given
    (rise_so_far silence_key c.args.rows.now c.loop-row.row-index row (map key_of c.args.items.now.items) (map key_of c.loop-row.items.items) (key_of item)
    c.loop-row-test.true c.row-item.is c.loop-row.invariant.2 (key_stored item (silence_in row).1 read.item_is) rise) in
    search rules
