use Rattle.std.proofs.Common.{◌∙◌, ◌<◌, ℕ, [], Bor, List, ap, arith, get_or, length, map, sym}
use Rattle.std.proofs.lemmas.List.{get_or-map, get_or_default, length-map}
use Rattle.am_column.proofs.PlacesLemmas.{lists_more}
use Rattle.am_column.proofs.places.places_by.Goals as goal

pub loop-number-preserved : goal.loop-number-preserved
loop-number-preserved c =
    let view : Bor (List ℕ) → List ℕ = λ value. value.now in
    let places = c.args.places.now in
    let refs = c.args.values.now in
    let i = c.loop-number.number in
    let none : Bor (List ℕ) = record { ref_ptr = (0, 0); now = [] } in
    let place = get_or places i 0 in
    let value = get_or refs i none in
    let within : i < length places = c.loop-number-test.true in
    let inside : i < length refs = omega (arith, within, c.requires) in
    lists_more places (map view refs) i place (view value) c.loop-number.lists c.note.new.places within
    (omega (arith, inside, length-map refs view))
    (get_or_default places i 0 place within)
    (sym (get_or-map view refs i value (view value) inside ∙ ap view (sym (get_or_default refs i none value inside))))
    c.loop-number.invariant c.in_ok-note.ensures
