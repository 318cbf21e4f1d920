use Rattle.std.proofs.Common.{◌∙◌, ◌++◌, ◌∷◌, ◌<◌, [], ℕ, Global, List, Vec, ap, length, map, slice_set, sym, arith}
use Rattle.std.proofs.lemmas.List.{get_or-map, length-map, map-set}
use Rattle.am_inhibit.proofs.ClassLemmas.{put_behind}
use Rattle.am_inhibit.proofs.classes.put.Goals as goal

pub returns-in_ok-push-2 : goal.returns-in_ok-push-2
returns-in_ok-push-2 c =
    let lists = c.args.lists.now.items in
    let number = c.args.number in
    let view : Vec ℕ Global → List ℕ = λ list. list.items in
    let before = c.index_mut.result.now in
    let below : number < length lists = omega (arith, c.requires, c.if-number-len.false, c.len.ensures) in
    map-set view lists number c.push-else-number-len.new.self
    ∙ ap (slice_set (map view lists) number)
    (c.in_ok-push-2.ensures.items
    ∙ ap (λ (list : List ℕ). list ++ c.args.place ∷ []) (ap view c.index_mut.ensures.value ∙ sym (get_or-map view lists number before [] below)))
    ∙ sym (put_behind c.args.place number (map view lists) (omega (arith, below, length-map lists view)))
