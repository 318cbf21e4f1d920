use Rattle.std.proofs.Common.{◌≡◌, ◌∙◌, ◌++◌, ◌∷◌, [], ap, get_or, map, sym, arith}
use Rattle.std.specs.Rc.{rc_slice_items}
use Rattle.std.proofs.lemmas.List.{get_or-map, length-map, map-append}
use Rattle.am_inhibit.proofs.ClassLemmas.{list_added, list_missed}
use Rattle.am_inhibit.proofs.classes.Classes.add_to.Goals as goal

pub returns-in_ok-push : goal.returns-in_ok-push
returns-in_ok-push c =
    let lists = map rc_slice_items c.args.self.now.lists.items in
    let held = map rc_slice_items c.args.lists.now.items in
    let number = c.in-Some.number.now in
    let long = length-map c.args.self.now.lists.items rc_slice_items in
    let below = c.requires.within number (sym c.in-Some.ensures.value) in
    let same : rc_slice_items c.in_ok-clone.field-0 ≡ get_or lists number [] =
    c.in_ok-clone.ensures.cases
    ∙ sym (get_or-map rc_slice_items c.args.self.now.lists.items number c.index.result.now [] below ∙ ap rc_slice_items (sym c.index.ensures)) in
    ap (map rc_slice_items) c.in_ok-push.ensures.items
    ∙ map-append rc_slice_items c.args.lists.now.items (c.in_ok-clone.field-0 ∷ [])
    ∙ ap (λ list. held ++ list ∷ []) same
    ∙ list_added _ number lists held (sym c.in-Some.ensures.value)
    (λ n at. let there = c.requires.within n at in omega (arith, there, long)) c.requires.some

pub returns-in_default : goal.returns-in_default
returns-in_default c =
    list_missed _ (map rc_slice_items c.args.self.now.lists.items) (map rc_slice_items c.args.lists.now.items) (sym c.in_default.ensures.value)
