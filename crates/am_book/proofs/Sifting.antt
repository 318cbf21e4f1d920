-- Dropping every key whose best item a test takes, from a list and from its best.
use Rattle.std.proofs.Common.{◌≡◌, Bool, true, false, cond, not, ◌&&◌, ◌||◌, List, [], ◌∷◌, Option, Some, None, refl, sym, ap, ◌∙◌, subst}
use Rattle.std.specs.List.{filter, list_any}
use Rattle.std.specs.List.Sorted.{IsStrictlySortedBy}
use Rattle.std.specs.Option.{option_map_or}
use Rattle.std.specs.Ordering.{is_eq}
use Rattle.std.proofs.lemmas.Bool.{cond-false, cond-true, not_from_false, not_from_true}
use Rattle.am_item.specs.declared.item.Item.{Item}
use Rattle.am_item.specs.declared.key.ThingKey.{ThingKey}
use Rattle.am_item.specs.Best.{IsRising, best, greatest, item_at, of_key}
use Rattle.am_item.specs.Key.{has_key, key_of}
use Rattle.am_item.proofs.BestLaws.{at-best, rising-best}
use Rattle.am_item.proofs.Greatest.{by_cases}
use Rattle.am_item.proofs.Keys.{key_same}
use Rattle.am_item.proofs.Rising.{AllAbove, here_at, later_at, none_above, rising_same}
use Rattle.am_book.proofs.Dropping.{above_filter, rising-filter}

-- what is left of a look-up
abbrev sifted : (Item → Bool) → Option Item → Option Item
sifted p None = None
sifted p (Some x) = cond (p x) (Some x) None

-- what a test of keys says of an item's key, where the item has that key
key_test : (r : ThingKey → Bool) (k : ThingKey) (x : Item) (b : Bool) → has_key k x ≡ true → r k ≡ b → r (key_of x) ≡ b
key_test r k x b h e = ap r (sym (key_same k (key_of x) h)) ∙ e

-- a look-up in what a test leaves of a rising list
at-filter : (p : Item → Bool) (k : ThingKey) (xs : List Item) → IsRising xs → item_at k (filter p xs) ≡ sifted p (item_at k xs)
unfolding IsStrictlySortedBy
at-filter p k [] up = refl
at-filter p k (y ∷ ys) up =
    let rest = filter p ys in
    by_cases (has_key k y)
    (λ h.
    let above : AllAbove k ys = subst (λ q. AllAbove q ys) (sym (key_same k (key_of y) h)) up.0 in
    by_cases (p y)
    (λ e.
    ap (item_at k) (cond-true _ (y ∷ rest) rest e) ∙ here_at k y rest h
    ∙ sym (ap (sifted p) (here_at k y ys h) ∙ cond-true _ (Some y) None e))
    (λ e.
    ap (item_at k) (cond-false _ (y ∷ rest) rest e) ∙ none_above k rest (above_filter p k ys above)
    ∙ sym (ap (sifted p) (here_at k y ys h) ∙ cond-false _ (Some y) None e)))
    (λ h.
    by_cases (p y)
    (λ e. ap (item_at k) (cond-true _ (y ∷ rest) rest e) ∙ later_at k y rest h ∙ at-filter p k ys up.1 ∙ sym (ap (sifted p) (later_at k y ys h)))
    (λ e. ap (item_at k) (cond-false _ (y ∷ rest) rest e) ∙ at-filter p k ys up.1 ∙ sym (ap (sifted p) (later_at k y ys h))))

-- an item of the key passes the test
abbrev pub some_passes : (Item → Bool) → List Item → ThingKey → Bool
some_passes p held k = list_any (λ y. has_key k y && p y) held

-- none of greater keys does
none_passes : (p : Item → Bool) (k : ThingKey) (xs : List Item) → AllAbove k xs → some_passes p xs k ≡ false
none_passes p k [] all = refl
none_passes p k (x ∷ xs) all = ap (λ b. (b && p x) || some_passes p xs k) (ap is_eq all.0) ∙ none_passes p k xs all.1

or_none : (b : Bool) → (b || false) ≡ b
or_none true = refl
or_none false = refl

-- in a rising list it is the item that a look-up finds
passes_at : (p : Item → Bool) (k : ThingKey) (xs : List Item) → IsRising xs → some_passes p xs k ≡ option_map_or p (item_at k xs) false
unfolding IsStrictlySortedBy
passes_at p k [] up = refl
passes_at p k (y ∷ ys) up =
    by_cases (has_key k y)
    (λ h.
    ap (λ b. (b && p y) || some_passes p ys k) h
    ∙ ap (λ b. p y || b) (none_passes p k ys (subst (λ q. AllAbove q ys) (sym (key_same k (key_of y) h)) up.0))
    ∙ or_none (p y)
    ∙ sym (ap (λ o. option_map_or p o false) (here_at k y ys h)))
    (λ h. ap (λ b. (b && p y) || some_passes p ys k) h ∙ passes_at p k ys up.1 ∙ sym (ap (λ o. option_map_or p o false) (later_at k y ys h)))

-- the items of a key, where a test of keys dropped some
of_key-dropped : (r : ThingKey → Bool) (k : ThingKey) (xs : List Item) → of_key k (filter (λ x. not (r (key_of x))) xs) ≡ cond (r k) [] (of_key k xs)
of_key-dropped r k [] =
    let none : List Item = [] in
    by_cases (r k) (λ e. sym (cond-true (r k) none none e)) (λ e. sym (cond-false (r k) none none e))
of_key-dropped r k (x ∷ xs) =
    let q : Item → Bool = λ (y : Item). not (r (key_of y)) in
    let rest = filter q xs in
    by_cases (has_key k x)
    (λ h.
    by_cases (r k)
    (λ e.
    ap (of_key k) (cond-false _ (x ∷ rest) rest (not_from_true (r (key_of x)) (key_test r k x true h e))) ∙ of_key-dropped r k xs
    ∙ cond-true _ [] (of_key k xs) e ∙ sym (cond-true _ [] (of_key k (x ∷ xs)) e))
    (λ e.
    ap (of_key k) (cond-true _ (x ∷ rest) rest (not_from_false (r (key_of x)) (key_test r k x false h e)))
    ∙ cond-true _ (x ∷ of_key k rest) (of_key k rest) h
    ∙ ap (λ zs. x ∷ zs) (of_key-dropped r k xs ∙ cond-false _ [] (of_key k xs) e)
    ∙ sym (cond-false _ [] (of_key k (x ∷ xs)) e ∙ cond-true _ (x ∷ of_key k xs) (of_key k xs) h)))
    (λ h.
    by_cases (q x) (λ e. ap (of_key k) (cond-true _ (x ∷ rest) rest e) ∙ cond-false _ (x ∷ of_key k rest) (of_key k rest) h) (λ e. ap (of_key k) (cond-false _ (x ∷ rest) rest e))
    ∙ of_key-dropped r k xs
    ∙ ap (cond (r k) []) (sym (cond-false _ (x ∷ of_key k xs) (of_key k xs) h)))

-- the greatest of nothing is none
greatest-cond : (b : Bool) (zs : List Item) → greatest (cond b [] zs) ≡ cond b None (greatest zs)
greatest-cond true zs = refl
greatest-cond false zs = refl

-- what a test takes goes
sifted-cond : (p : Item → Bool) (o : Option Item) → sifted (λ x. not (p x)) o ≡ cond (option_map_or p o false) None o
sifted-cond p None = refl
sifted-cond p (Some x) =
    by_cases (p x)
    (λ e. cond-false _ (Some x) None (not_from_true (p x) e) ∙ sym (cond-true _ None (Some x) e))
    (λ e. cond-true _ (Some x) None (not_from_false (p x) e) ∙ sym (cond-false _ None (Some x) e))

-- the best of what is left is what is left of the best
pub best-dropped : (p : Item → Bool) (xs : List Item) → filter (λ x. not (p x)) (best xs) ≡ best (filter (λ x. not (some_passes p (best xs) (key_of x))) xs)
best-dropped p xs =
    let goes : ThingKey → Bool = some_passes p (best xs) in
    let left = filter (λ (x : Item). not (goes (key_of x))) xs in
    rising_same (filter (λ x. not (p x)) (best xs)) (best left) (rising-filter (λ x. not (p x)) (best xs) (rising-best xs)) (rising-best left)
    (λ k.
    at-filter (λ x. not (p x)) k (best xs) (rising-best xs)
    ∙ sifted-cond p (item_at k (best xs))
    ∙ ap (λ b. cond b None (item_at k (best xs))) (sym (passes_at p k (best xs) (rising-best xs)))
    ∙ ap (cond (goes k) None) (at-best k xs)
    ∙ sym (at-best k left ∙ ap greatest (of_key-dropped goes k xs) ∙ greatest-cond (goes k) (of_key k xs)))
