use Rattle.std.proofs.Common.{◌∙◌, ◌∷◌, [], ap, sym, take}
use Rattle.std.specs.Option.{option_map}
use Rattle.am_table.specs.Holders.{held_at, labels_named, with_holders}
use Rattle.am_table.proofs.HolderLemmas.{named-more, noted-append, noted-nothing}
use Rattle.am_table.proofs.holders.note_labels.Goals as goal

pub loop-label-init : goal.loop-label-init
loop-label-init c = λ name. sym (noted-nothing (held_at c.args.held.now name))

pub loop-label-preserved : goal.loop-label-preserved
loop-label-preserved c = λ name.
    let place = c.args.place in
    let labels = c.args.labels.now in
    let i = c.loop-label.label-index in
    let label = c.label-item.result in
    let before = labels_named place name (take i labels) in
    c.in_ok-note.ensures name
    ∙ ap (option_map (with_holders (labels_named place name (label ∷ [])))) (c.loop-label.invariant name)
    ∙ sym (noted-append before (labels_named place name (label ∷ [])) (held_at c.args.held.now name))
    ∙ ap (λ hs. option_map (with_holders hs) (held_at c.args.held.now name)) (sym (named-more place name labels i label c.loop-label-test.true c.label-item.is))
