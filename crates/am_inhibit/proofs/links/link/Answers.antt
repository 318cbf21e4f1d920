use Rattle.std.proofs.Common.{◌≡◌, ◌∙◌, ◌++◌, ◌∷◌, ◌<◌, ◌==◌, ℕ, [], Bor, Global, List, Vec, ap, cond, get_or, length, map, subst, sym, arith}
use Rattle.std.specs.Rc.{rc_slice_items}
use Rattle.std.specs.declared.rc.RcSlice.{RcSlice}
use Rattle.std.proofs.lemmas.List.{get_or-map, length-map}
use Rattle.am_labels.specs.declared.Label.{Label}
use Rattle.am_labels.specs.declared.label_set.LabelSet.{LabelSet}
use Rattle.am_inhibit.specs.Alike.{key_of}
use Rattle.am_inhibit.specs.Classes.{list_of_key, places_of_key}
use Rattle.am_inhibit.specs.Links.{lists_of}
use Rattle.am_inhibit.proofs.LinkLemmas.{AreExtended, comes_to, extended_more, extended_on, extended_past, linked, places_stay}
use Rattle.am_inhibit.proofs.links.link.Goals.{then-targets-place+in_ok-key+in_ok-add_to, else-targets-place}
use Rattle.am_inhibit.proofs.links.link.Goals as goal

pub add_to-requires-clause-within : goal.add_to-requires-clause-within
add_to-requires-clause-within c = λ number at.
    let below = c.in_ok-classes.ensures.within c.in_ok-key.key number at in
    omega (arith, below, length-map c.in_ok-classes.classes.lists.items rc_slice_items)

pub loop-place-preserved : goal.loop-place-preserved
loop-place-preserved c =
    let names = c.args.names.now in
    let view : Bor LabelSet → List Label = λ set. set.now in
    let sets = map view c.args.sets.now in
    let sources = c.args.sources.now in
    let targets = c.args.targets.now in
    let old = lists_of c.args.links.now.items in
    let place = c.loop-place.place in
    let set = c.index-sets-place.result in
    let links = c.loop-place.links.items in
    let classes = c.in_ok-classes.classes in
    let held : Vec (RcSlice ℕ Global) Global → List (List ℕ) = λ lists. map rc_slice_items lists.items in
    let within : place < length links =
    omega (arith, c.loop-place.invariant.long, length-map links held, length-map c.args.links.now.items held, c.requires.links, c.loop-place-test.true) in
    let at : key_of names set.now ≡ key_of names (get_or sets place []) =
    ap (key_of names) (sym (get_or-map view c.args.sets.now place set [] c.loop-place-test.true ∙ ap view (sym c.index-sets-place.is))) in
    elim c.if-targets-place.branch [
      | then-targets-place+in_ok-key+in_ok-add_to w ↦
          let before = w.index_mut.result.now in
          let listed : list_of_key classes.numbers (map rc_slice_items classes.lists.items) w.in_ok-key.key ≡ comes_to names sets sources targets place =
          c.in_ok-classes.ensures.listed w.in_ok-key.key ∙ ap (places_of_key names sets sources) (w.in_ok-key.ensures ∙ at) in
          rw w.links-is
          (extended_more names sets sources targets place old links before w.add_to.new.lists within w.index_mut.ensures.value
          (w.in_ok-add_to.ensures
          ∙ ap (λ (list : List ℕ). cond (length list == 0) (held before) (held before ++ list ∷ [])) listed
          ∙ extended_on names sets sources targets place (held before) w.if-targets-place.true)
          c.loop-place.invariant)
      | else-targets-place w ↦
          rw w.links-is (extended_past names sets sources targets place old links w.if-targets-place.false c.loop-place.invariant)
    ]

pub returns-clause-linked : goal.returns-clause-linked
returns-clause-linked c =
    let names = c.args.names.now in
    let view : Bor LabelSet → List Label = λ set. set.now in
    let sets = map view c.args.sets.now in
    let old = lists_of c.args.links.now.items in
    let new = lists_of c.loop-place.links.items in
    let end : c.loop-place.place ≡ length sets =
    omega (arith, c.loop-place-test.false, c.loop-place.auto.place-end, length-map c.args.sets.now view) in
    linked names sets c.args.sources.now c.args.targets.now old new
    (subst (λ n. AreExtended names sets c.args.sources.now c.args.targets.now n old new) end c.loop-place.invariant)

pub returns-clause-places : goal.returns-clause-places
returns-clause-places c = λ count sound fine.
    let names = c.args.names.now in
    let view : Bor LabelSet → List Label = λ set. set.now in
    let sets = map view c.args.sets.now in
    let held : Vec (RcSlice ℕ Global) Global → List (List ℕ) = λ lists. map rc_slice_items lists.items in
    let old = lists_of c.args.links.now.items in
    let new = lists_of c.loop-place.links.items in
    let long = length-map c.args.sets.now view in
    let end : c.loop-place.place ≡ length sets = omega (arith, c.loop-place-test.false, c.loop-place.auto.place-end, long) in
    places_stay names sets c.args.sources.now c.args.targets.now count sound old new
    (length-map c.args.links.now.items held ∙ c.requires.links ∙ sym long)
    (subst (λ n. AreExtended names sets c.args.sources.now c.args.targets.now n old new) end c.loop-place.invariant) fine
