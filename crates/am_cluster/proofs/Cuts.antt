-- The pieces of a list are the list.
use Rattle.std.proofs.Common.{◌≡◌, ◌+◌, Bool, true, false, List, [], ◌∷◌, ◌++◌, length, if◌then◌else◌, sym, ap, ◌∙◌, append_assoc, append-nil}
use Rattle.std.specs.List.{flat_map}
use Rattle.std.proofs.lemmas.List.Concat.{flat_map-append}
use Rattle.am_item.specs.declared.item.Item.{Item}
use Rattle.am_transfer.specs.Pieces.{Cutting, Piece, all_cut, cut, cut_with, piece_of, takes}

abbrev items_of : Piece → List Item
items_of p = p.items

-- what was cut so far
abbrev so_far : Cutting → List Item
so_far c = flat_map items_of c.done ++ c.items

with_one : (t : Bool) (c : Cutting) (item : Item)
    → so_far (if t then record c { items = c.items ++ item ∷ [] }
    else record { done = c.done ++ piece_of false c ∷ []; place = c.place + length c.items; items = item ∷ [] })
    ≡ so_far c ++ item ∷ []
with_one true c item = sym (append_assoc (flat_map items_of c.done) c.items (item ∷ []))
with_one false c item =
    ap (λ (l : List Item). l ++ item ∷ []) (flat_map-append items_of c.done (piece_of false c ∷ [])
    ∙ ap (λ (l : List Item). flat_map items_of c.done ++ l) (append-nil c.items))

all_so_far : (c : Cutting) (items : List Item) → so_far (all_cut c items) ≡ so_far c ++ items
all_so_far c [] = sym (append-nil (so_far c))
all_so_far c (item ∷ more) =
    all_so_far (cut_with c item) more
    ∙ ap (λ (l : List Item). l ++ more) (with_one (takes c.items item) c item)
    ∙ append_assoc (so_far c) (item ∷ []) more

pub pieces_are_list : (items : List Item) → flat_map (λ (p : Piece). p.items) (cut items) ≡ items
unfolding cut
pieces_are_list items =
    let c : Cutting = all_cut (record { done = []; place = 0; items = [] }) items in
    flat_map-append items_of c.done (piece_of true c ∷ [])
    ∙ ap (λ (l : List Item). flat_map items_of c.done ++ l) (append-nil c.items)
    ∙ all_so_far (record { done = []; place = 0; items = [] }) items
