use Rattle.std.proofs.Common.{◌≡◌, ◌∙◌, ◌<◌, ◌++◌, ◌∷◌, [], All, Bor, List, Some, ap, arith, get_or, length, map, subst, sym, take}
use Rattle.std.specs.Option.{option_map}
use Rattle.std.proofs.lemmas.List.{get_or-map, length-map, take_more}
use Rattle.std.proofs.lemmas.List.Elements.{All-append, All-cons, All-nil}
use Rattle.am_labels.specs.declared.Label.{Label}
use Rattle.am_labels.specs.declared.label_set.LabelSet.{LabelSet}
use Rattle.am_labels.specs.Sets.{IsLabelSet}
use Rattle.am_table.specs.Holders.{holders_from, labels_named, none_hold, with_holders}
use Rattle.am_table.proofs.HolderLemmas.{holders-more, with-append}
use Rattle.am_table.proofs.holders.holders_of.Goals as goal

pub loop-place-preserved : goal.loop-place-preserved
loop-place-preserved c =
    let view : Bor LabelSet → List Label = λ set. set.now in
    let refs = c.args.sets.now in
    let sets = map view refs in
    let i = c.loop-place.place in
    let set = c.index-sets-place.result in
    let fits : i < length sets = omega (arith, c.loop-place-test.true, length-map refs view) in
    let is : view set ≡ get_or sets i (view set) = sym (get_or-map view refs i set (view set) c.loop-place-test.true ∙ ap view (sym c.index-sets-place.is)) in
    record {
      label_sets =
          subst (All IsLabelSet) (sym (take_more sets i (view set) fits ∙ ap (λ ls. take i sets ++ ls ∷ []) (sym is)))
          (All-append IsLabelSet (take i sets) (view set ∷ []) c.loop-place.invariant.label_sets
          (All-cons IsLabelSet (view set) [] c.labels.ensures.set (All-nil IsLabelSet)));
      held = λ name there.
          let before = holders_from 0 name (take i sets) in
          c.in_ok-note_labels.ensures name
          ∙ ap (option_map (with_holders (labels_named i name c.labels.result.now))) (c.loop-place.invariant.held name there)
          ∙ ap (λ ls. Some (with_holders (labels_named i name ls) (with_holders before none_hold))) c.labels.ensures.labels
          ∙ ap Some (sym (with-append before (labels_named i name (view set)) none_hold))
          ∙ ap (λ hs. Some (with_holders hs none_hold)) (sym (holders-more name sets i (view set) fits is));
    }
