-- Joining items and lists: it commutes, associates, and changes nothing when repeated.
use Rattle.std.proofs.Common.{◌≡◌, Bool, true, false, cond, List, [], ◌∷◌, ◌++◌, Option, Some, None, refl, sym, ap, ◌∙◌, append_assoc}
use Rattle.std.specs.Option.{is_some}
use Rattle.std.proofs.lemmas.Bool.{cond-false, cond-true, false≢true}
use Rattle.std.proofs.lemmas.List.{append-nil}
use Rattle.std.proofs.lemmas.List.Elements.{Contains-append_left, Contains-append_right}
use Rattle.am_item.specs.declared.item.Item.{Item}
use Rattle.am_item.specs.Best.{IsRising, StampsTellApart, all_joined, best, item_at, joined, merged}
use Rattle.am_item.specs.Key.{Key, exceeds, has_key, key_of}
use Rattle.am_item.proofs.BestLaws.{best-append_best_left, best-push, best-rising, best_same, greatest_at, greatest_at-append, greatest_keyed, later_same}
use Rattle.am_item.proofs.Greatest.{by_cases, exceeds_asym, later, later_assoc, some_same}
use Rattle.am_item.proofs.Keys.{key_same}
use Rattle.am_item.proofs.Meaning.{greatest_among, stamps_same}
use Rattle.am_item.proofs.Joined.{at-joined, greatest_of_one, rising-joined, with_item}
use Rattle.am_item.proofs.Rising.{rising_same}

-- the later of two is the same in either order, where stamps tell them apart
later_comm : (a b : Option Item) → ((x y : Item) → a ≡ Some x → b ≡ Some y → x.stamp ≡ y.stamp → x ≡ y) → later a b ≡ later b a
later_comm None None h = refl
later_comm None (Some y) h = refl
later_comm (Some x) None h = refl
later_comm (Some x) (Some y) h =
    by_cases (exceeds y x)
    (λ e. cond-true _ (Some y) (Some x) e ∙ sym (cond-false _ (Some x) (Some y) (exceeds_asym y x e)))
    (λ e. cond-false _ (Some y) (Some x) e
    ∙ by_cases (exceeds x y)
    (λ k. sym (cond-true _ (Some x) (Some y) k))
    (λ k. ap Some (h x y refl refl (stamps_same x y k e)) ∙ sym (cond-false _ (Some x) (Some y) k)))

-- joining lists commutes, where stamps tell items apart
pub merged_comm : (xs ys : List Item) → StampsTellApart (xs ++ ys) → merged xs ys ≡ merged ys xs
merged_comm xs ys tell =
    best_same (xs ++ ys) (ys ++ xs)
    (λ key.
    greatest_at-append key xs ys
    ∙ later_comm (greatest_at key xs) (greatest_at key ys)
    (λ x y h k. tell x y (Contains-append_left xs ys x (greatest_among key xs x h)) (Contains-append_right xs ys y (greatest_among key ys y k)) (greatest_keyed xs key x h ∙ sym (greatest_keyed ys key y k)))
    ∙ sym (greatest_at-append key ys xs))

-- ---- one item

-- the greatest of a list and one item more, by key
greatest_at-push : (key : Key) (xs : List Item) (y : Item) → greatest_at key (xs ++ y ∷ []) ≡ later (greatest_at key xs) (cond (has_key key y) (Some y) None)
greatest_at-push key xs y = greatest_at-append key xs (y ∷ []) ∙ ap (later (greatest_at key xs)) (greatest_of_one key y)

-- an item that comes again changes nothing
pub joined_again : (xs : List Item) (y : Item) → joined (joined xs y) y ≡ joined xs y
joined_again xs y =
    best-append_best_left (xs ++ y ∷ []) (y ∷ [])
    ∙ best_same ((xs ++ y ∷ []) ++ y ∷ []) (xs ++ y ∷ [])
    (λ key.
    let one = cond (has_key key y) (Some y) None in
    greatest_at-push key (xs ++ y ∷ []) y
    ∙ ap (λ o. later o one) (greatest_at-push key xs y)
    ∙ sym (later_assoc (greatest_at key xs) one one)
    ∙ ap (later (greatest_at key xs)) (later_same one)
    ∙ sym (greatest_at-push key xs y))

-- what a test lets through is the item
one_of : (b : Bool) (x y : Item) → cond b (Some x) None ≡ Some y → x ≡ y
one_of true x y h = some_same x y h
one_of false x y h = absurd (false≢true (ap is_some h))

-- an item of which the key is asked has the key
one_keyed : (key : Key) (x y : Item) → cond (has_key key x) (Some x) None ≡ Some y → key_of x ≡ key
one_keyed key x y h = by_cases (has_key key x)
    (λ e. sym (key_same key (key_of x) e))
    (λ e. absurd (false≢true (ap is_some (sym (cond-false _ (Some x) None e) ∙ h))))

-- two items may come in either order
pub joined_comm : (xs : List Item) (x y : Item) → (key_of x ≡ key_of y → x.stamp ≡ y.stamp → x ≡ y) → joined (joined xs x) y ≡ joined (joined xs y) x
joined_comm xs x y tell =
    best-append_best_left (xs ++ x ∷ []) (y ∷ [])
    ∙ best_same ((xs ++ x ∷ []) ++ y ∷ []) ((xs ++ y ∷ []) ++ x ∷ [])
    (λ key.
    let one = cond (has_key key x) (Some x) None in
    let two = cond (has_key key y) (Some y) None in
    let held = greatest_at key xs in
    let turned : later one two ≡ later two one = later_comm one two (λ a b h k e.
    let is_x = one_of (has_key key x) x a h in
    let is_y = one_of (has_key key y) y b k in
    let same = one_keyed key x a h ∙ sym (one_keyed key y b k) in
    sym is_x ∙ tell same (ap (λ i. i.stamp) is_x ∙ e ∙ ap (λ i. i.stamp) (sym is_y)) ∙ is_y) in
    greatest_at-push key (xs ++ x ∷ []) y ∙ ap (λ o. later o two) (greatest_at-push key xs x)
    ∙ sym (later_assoc held one two) ∙ ap (later held) turned ∙ later_assoc held two one
    ∙ sym (greatest_at-push key (xs ++ y ∷ []) x ∙ ap (λ o. later o one) (greatest_at-push key xs y)))
    ∙ sym (best-append_best_left (xs ++ y ∷ []) (x ∷ []))

-- a look-up stays where the item held is not exceeded
stays_at : (key : Key) (o : Option Item) (x y : Item) → (has_key key y ≡ true → o ≡ Some x) → exceeds y x ≡ false → with_item key o y ≡ o
stays_at key o x y at e =
    by_cases (has_key key y)
    (λ h. cond-true _ (later o (Some y)) o h ∙ ap (λ p. later p (Some y)) (at h) ∙ cond-false _ (Some y) (Some x) e ∙ sym (at h))
    (λ h. cond-false _ (later o (Some y)) o h)

-- an item that does not exceed the one held changes nothing: of equal stamps the held one stays
pub joined_stays : (xs : List Item) (x y : Item) → IsRising xs → item_at (key_of y) xs ≡ Some x → exceeds y x ≡ false → joined xs y ≡ xs
joined_stays xs x y up at e =
    rising_same (joined xs y) xs (rising-joined xs y) up
    (λ key. at-joined key xs y up ∙ stays_at key (item_at key xs) x y (λ h. ap (λ q. item_at q xs) (key_same key (key_of y) h) ∙ at) e)

-- ---- a list, item by item

-- a list is joined item by item
pub merged-push : (xs ys : List Item) (y : Item) → merged xs (ys ++ y ∷ []) ≡ joined (merged xs ys) y
merged-push xs ys y = ap best (sym (append_assoc xs ys (y ∷ []))) ∙ best-push (xs ++ ys) y

-- items that come one after the other come as a list
pub all_joined-merged : (xs ys : List Item) → IsRising xs → all_joined xs ys ≡ merged xs ys
all_joined-merged xs [] up = sym (ap best (append-nil xs) ∙ best-rising xs up)
all_joined-merged xs (y ∷ ys) up = all_joined-merged (joined xs y) ys (rising-joined xs y) ∙ best-append_best_left (xs ++ y ∷ []) ys ∙ ap best (append_assoc xs (y ∷ []) ys)

-- one more item after others
pub all_joined-push : (xs ys : List Item) (y : Item) → all_joined xs (ys ++ y ∷ []) ≡ joined (all_joined xs ys) y
all_joined-push xs [] y = refl
all_joined-push xs (z ∷ zs) y = all_joined-push (joined xs z) zs y

-- one more item, on a test
pub joined_step : (b : Bool) (was mid now : List Item) (ys : List Item) (y : Item) → mid ≡ cond b (all_joined was ys) was → now ≡ cond b (joined mid y) mid → now ≡ cond b (all_joined was (ys ++ y ∷ [])) was
joined_step true was mid now ys y h k = k ∙ ap (λ xs. joined xs y) h ∙ sym (all_joined-push was ys y)
joined_step false was mid now ys y h k = k ∙ h

-- a list that comes again changes nothing
pub merged_twice : (xs ys : List Item) → merged (merged xs ys) ys ≡ merged xs ys
merged_twice xs ys =
    best-append_best_left (xs ++ ys) ys
    ∙ best_same ((xs ++ ys) ++ ys) (xs ++ ys)
    (λ key.
    let more = greatest_at key ys in
    greatest_at-append key (xs ++ ys) ys
    ∙ ap (λ o. later o more) (greatest_at-append key xs ys)
    ∙ sym (later_assoc (greatest_at key xs) more more)
    ∙ ap (later (greatest_at key xs)) (later_same more)
    ∙ sym (greatest_at-append key xs ys))
