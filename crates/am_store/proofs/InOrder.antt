-- Items in order of key.
use Rattle.std.proofs.Common.{◌≡◌, inl, inr, ◌+◌, ◌-◌, ◌<◌, List, [], ◌∷◌, ◌++◌, get_or, length, length-append, arith, ap, ◌∙◌}
use Rattle.std.specs.declared.cmp.Ordering.TheVariants.{Less}
use Rattle.std.proofs.lemmas.Bool.{cases_lt}
use Rattle.std.proofs.lemmas.Cmp.{on_total}
use Rattle.std.proofs.lemmas.List.{get_or-append-add, get_or_append_left}
use Rattle.std.proofs.lemmas.Map.Keys.{Less-from_sorted, sorted_from_all_adjacent}
use Rattle.am_item.specs.Best.{IsRising}
use Rattle.am_item.specs.Key.{key_cmp, key_of}
use Rattle.am_item.specs.declared.item.Item.{Item}
use Rattle.am_item.proofs.Order.{keys_total}

-- an item behind those of lesser keys
pub rising_push : (xs : List Item) (y : Item) → IsRising xs → ((d : Item) → 0 < length xs → key_cmp (key_of (get_or xs (length xs - 1) d)) (key_of y) ≡ Less) → IsRising (xs ++ y ∷ [])
rising_push xs y rising above =
    sorted_from_all_adjacent (on_total key_of keys_total) (xs ++ y ∷ []) y
    (λ k low. elim (cases_lt (k + 1) (length xs)) [
      | inl within ↦
          rw (get_or_append_left xs (y ∷ []) y k (omega (arith, within)), get_or_append_left xs (y ∷ []) y (k + 1) within)
          (Less-from_sorted (λ a b. key_cmp (key_of a) (key_of b)) xs k (k + 1) y rising (omega arith) within)
      | inr last ↦
          let is : k + 1 ≡ length xs = omega (arith, low, last, length-append xs (y ∷ [])) in
          let here : get_or (xs ++ y ∷ []) k y ≡ get_or xs (length xs - 1) y =
          get_or_append_left xs (y ∷ []) y k (omega (arith, is)) ∙ ap (λ j. get_or xs j y) (omega (arith, is)) in
          let next : get_or (xs ++ y ∷ []) (k + 1) y ≡ y = ap (λ j. get_or (xs ++ y ∷ []) j y) (omega (arith, is)) ∙ get_or-append-add xs (y ∷ []) 0 y in
          rw (here, next) (above y (omega (arith, is)))
    ])
