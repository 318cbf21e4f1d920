-- What one more item makes of a rising list, look-up by look-up.
use Rattle.std.proofs.Common.{◌≡◌, Bool, true, false, cond, List, [], ◌∷◌, ◌++◌, Option, Some, None, refl, sym, ap, ◌∙◌}
use Rattle.std.proofs.lemmas.Bool.{cond-false, cond-true}
use Rattle.am_item.specs.declared.item.Item.{Item}
use Rattle.am_item.specs.Best.{IsRising, item_at, joined}
use Rattle.am_item.specs.Key.{Key, has_key}
use Rattle.am_item.proofs.BestLaws.{at-best, greatest_at, greatest_at-append, greatest_at-rising, rising-best}
use Rattle.am_item.proofs.Greatest.{by_cases, greatest-latest, later, later-none, latest}
use Rattle.am_item.proofs.Rising.{rising_same}

-- what a look-up gives where an item has come to a list
abbrev pub with_item : Key → Option Item → Item → Option Item
with_item k o y = cond (has_key k y) (later o (Some y)) o

-- the greatest of one item, by key
pub greatest_of_one : (k : Key) (y : Item) → greatest_at k (y ∷ []) ≡ cond (has_key k y) (Some y) None
greatest_of_one k y = by_cases (has_key k y)
    (λ h. greatest-latest _ ∙ ap latest (cond-true _ (y ∷ []) [] h) ∙ sym (cond-true _ (Some y) None h))
    (λ h. greatest-latest _ ∙ ap latest (cond-false _ (y ∷ []) [] h) ∙ sym (cond-false _ (Some y) None h))

-- an item that comes on a test comes later on that test
later_if : (b : Bool) (o : Option Item) (y : Item) → later o (cond b (Some y) None) ≡ cond b (later o (Some y)) o
later_if true o y = refl
later_if false o y = later-none o

-- what a look-up gives in a rising list that an item has joined
pub at-joined : (k : Key) (xs : List Item) (y : Item) → IsRising xs → item_at k (joined xs y) ≡ with_item k (item_at k xs) y
at-joined k xs y up =
    at-best k (xs ++ y ∷ [])
    ∙ greatest_at-append k xs (y ∷ [])
    ∙ ap (later (greatest_at k xs)) (greatest_of_one k y)
    ∙ ap (λ o. later o (cond (has_key k y) (Some y) None)) (greatest_at-rising k xs up)
    ∙ later_if (has_key k y) (item_at k xs) y

-- a list that an item has joined rises
pub rising-joined : (xs : List Item) (y : Item) → IsRising (joined xs y)
rising-joined xs y = rising-best (xs ++ y ∷ [])

-- a rising list whose look-ups are those of a list that an item has joined is that list
pub is_joined : (xs ys : List Item) (y : Item) → IsRising xs → IsRising ys → ((k : Key) → item_at k ys ≡ with_item k (item_at k xs) y) → ys ≡ joined xs y
is_joined xs ys y up up' h = rising_same ys (joined xs y) up' (rising-joined xs y) (λ k. h k ∙ sym (at-joined k xs y up))
