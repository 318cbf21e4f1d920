-- Whether items were new when they came, one after the other.
use Rattle.std.proofs.Common.{◌≡◌, List, [], ◌∷◌, ◌++◌, refl, ap}
use Rattle.am_item.specs.declared.item.Item.{Item}
use Rattle.am_item.specs.Best.{all_joined, joined}
use Rattle.am_book.specs.Book.{are_new, is_new}

-- one more item
pub new_more : (held ys : List Item) (item : Item) → are_new held ys ++ is_new (all_joined held ys) item ∷ [] ≡ are_new held (ys ++ item ∷ [])
new_more held [] item = refl
new_more held (y ∷ ys) item = ap (λ rest. is_new held y ∷ rest) (new_more (joined held y) ys item)
