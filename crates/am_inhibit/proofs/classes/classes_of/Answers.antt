use Rattle.std.proofs.Common.{◌≡◌, ◌∙◌, ℕ, [], Bor, Global, List, Vec, ap, get_or, map, refl, sym, arith}
use Rattle.std.specs.BTreeMap.{get}
use Rattle.std.specs.Option.{unwrap_or}
use Rattle.std.proofs.lemmas.List.{get_or-map, length-map}
use Rattle.am_labels.specs.declared.Label.{Label}
use Rattle.am_labels.specs.declared.label_set.LabelSet.{LabelSet}
use Rattle.am_inhibit.specs.Alike.{key_of, keys_cmp}
use Rattle.am_inhibit.proofs.ClassLemmas.{held_all, held_none, held_past, held_put, number_fits}
use Rattle.am_inhibit.proofs.classes.classes_of.Goals.{then-flags-place+in_ok-of+in_ok-number+in_ok-put, else-flags-place}
use Rattle.am_inhibit.proofs.classes.classes_of.Goals as goal

pub loop-place-init : goal.loop-place-init
loop-place-init c =
    rw c.new-lists.ensures.items
    (held_none c.args.names.now (map (λ (set : Bor LabelSet). set.now) c.args.sets.now) c.args.flags.now c.new-numbers.result
    (λ key. rw c.new-numbers.ensures.empty refl))

pub put-requires : goal.put-requires
put-requires c =
    let view : Vec ℕ Global → List ℕ = λ list. list.items in
    let lists = c.loop-place.lists.items in
    let long = length-map lists view in
    let fits = number_fits c.loop-place.numbers (map view lists) c.in_ok-of.field-0 c.in_ok-number.number
    (c.in_ok-number.ensures.number ∙ ap (unwrap_or (get keys_cmp c.loop-place.numbers c.in_ok-of.field-0)) (c.len.ensures ∙ c.loop-place.lists.ok.0 ∙ sym long)) c.loop-place.invariant.within in
    omega (arith, fits, long)

pub loop-place-preserved : goal.loop-place-preserved
loop-place-preserved c =
    let names = c.args.names.now in
    let view : Bor LabelSet → List Label = λ set. set.now in
    let sets = map view c.args.sets.now in
    let place = c.loop-place.place in
    let set = c.index-sets-place.result in
    let at : key_of names (get_or sets place []) ≡ key_of names set.now =
    ap (key_of names) (get_or-map view c.args.sets.now place set [] c.loop-place-test.true ∙ ap view (sym c.index-sets-place.is)) in
    let items : Vec ℕ Global → List ℕ = λ list. list.items in
    let lists = c.loop-place.lists.items in
    elim c.if-flags-place.branch [
      | then-flags-place+in_ok-of+in_ok-number+in_ok-put w ↦
          rw (w.numbers-is, w.lists-is, w.in_ok-put.ensures)
          (held_put names sets c.args.flags.now place c.loop-place.numbers w.number_of.new.numbers (map items lists) w.in_ok-of.field-0 w.in_ok-number.number
          w.if-flags-place.true (w.in_ok-of.ensures ∙ sym at)
          (w.in_ok-number.ensures.number ∙ ap (unwrap_or (get keys_cmp c.loop-place.numbers w.in_ok-of.field-0)) (w.len.ensures ∙ c.loop-place.lists.ok.0 ∙ sym (length-map lists items)))
          w.in_ok-number.ensures.kept c.loop-place.invariant)
      | else-flags-place w ↦
          rw (w.numbers-is, w.lists-is)
          (held_past names sets c.args.flags.now place c.loop-place.numbers (map items lists) w.if-flags-place.false c.loop-place.invariant)
    ]

pub returns : goal.returns
returns c =
    let names = c.args.names.now in
    let view : Bor LabelSet → List Label = λ set. set.now in
    let sets = map view c.args.sets.now in
    let long = length-map c.args.sets.now view in
    rw c.in_ok-lists.ensures
    (held_all names sets c.args.flags.now c.loop-place.place c.loop-place.numbers (map (λ (list : Vec ℕ Global). list.items) c.loop-place.lists.items)
    (omega (arith, c.loop-place-test.false, c.loop-place.auto.place-end, long)) c.loop-place.invariant)
