-- The best of a list: what it holds, one item more, and joining two lists.
use Rattle.std.proofs.Common.{◌≡◌, Bool, true, false, List, [], ◌∷◌, ◌++◌, Option, Some, None, refl, sym, ap, ◌∙◌, subst, append_assoc}
use Rattle.std.specs.List.{find, list_any}
use Rattle.std.specs.List.Sorted.{IsStrictlySortedBy}
use Rattle.std.specs.Option.{is_some}
use Rattle.std.specs.Ordering.{is_eq}
use Rattle.std.proofs.lemmas.Bool.{cond-false, cond-true, false≢true, or_parts}
use Rattle.std.proofs.lemmas.List.Elements.{filter-append}
use Rattle.am_item.specs.declared.item.Item.{Item}
use Rattle.am_item.specs.Best.{IsRising, best, greatest, item_at, joined, keys_of, merged, of_key}
use Rattle.am_item.specs.Key.{Key, exceeds, has_key, key_cmp, key_of}
use Rattle.am_item.proofs.Greatest.{by_cases, greatest-latest, later, latest, latest-append, some_same}
use Rattle.am_item.proofs.Keys.{any_key, key_same, sorted_keys}
use Rattle.am_item.proofs.Rising.{AllAbove, at_made, here_at, later_at, rising_made, rising_same}

-- the greatest item of a key
abbrev pub greatest_at : Key → List Item → Option Item
greatest_at key xs = greatest (of_key key xs)

-- each item of a key has that key
found_keyed : (key : Key) (xs : List Item) (p : Item → Bool) (x : Item) → find p (of_key key xs) ≡ Some x → has_key key x ≡ true
found_keyed key [] p x h = absurd (false≢true (ap is_some h))
found_keyed key (y ∷ ys) p x h =
    by_cases (has_key key y)
    (λ e.
    let here : find p (y ∷ of_key key ys) ≡ Some x = sym (ap (find p) (cond-true _ (y ∷ of_key key ys) (of_key key ys) e)) ∙ h in
    by_cases (p y)
    (λ t. subst (λ z. has_key key z ≡ true) (some_same y x (sym (cond-true _ (Some y) (find p (of_key key ys)) t) ∙ here)) e)
    (λ t. found_keyed key ys p x (sym (cond-false _ (Some y) (find p (of_key key ys)) t) ∙ here)))
    (λ e. found_keyed key ys p x (sym (ap (find p) (cond-false _ (y ∷ of_key key ys) (of_key key ys) e)) ∙ h))

-- the greatest item of a key has that key
pub greatest_keyed : (xs : List Item) (key : Key) (x : Item) → greatest_at key xs ≡ Some x → key_of x ≡ key
greatest_keyed xs key x h = sym (key_same key (key_of x) (found_keyed key xs _ x h))

-- a list without the key has no item of it
none_of_key : (key : Key) (xs : List Item) → list_any (λ x. has_key key x) xs ≡ false → of_key key xs ≡ []
none_of_key key [] h = refl
none_of_key key (x ∷ xs) h =
    let parts = or_parts (has_key key x) (list_any (λ y. has_key key y) xs) h in
    cond-false _ (x ∷ of_key key xs) (of_key key xs) parts.0 ∙ none_of_key key xs parts.1

-- keys of a best list rise
pub rising-best : (xs : List Item) → IsRising (best xs)
unfolding best
rising-best xs = rising_made (λ key. greatest_at key xs) (greatest_keyed xs) (keys_of xs) (sorted_keys xs)

-- a best list has, at each key, the greatest item of that key
pub at-best : (key : Key) (xs : List Item) → item_at key (best xs) ≡ greatest_at key xs
unfolding best
at-best key xs =
    at_made (λ q. greatest_at q xs) (greatest_keyed xs) key (keys_of xs)
    ∙ by_cases (list_any (λ p. is_eq (key_cmp key p)) (keys_of xs))
    (λ e. cond-true _ (greatest_at key xs) None e)
    (λ e. cond-false _ (greatest_at key xs) None e ∙ sym (ap greatest (none_of_key key xs (sym (any_key key xs) ∙ e))))

-- lists with the same greatest item of each key have the same best
pub best_same : (xs ys : List Item) → ((key : Key) → greatest_at key xs ≡ greatest_at key ys) → best xs ≡ best ys
best_same xs ys h = rising_same (best xs) (best ys) (rising-best xs) (rising-best ys) (λ key. at-best key xs ∙ h key ∙ sym (at-best key ys))

-- the greatest of two lists is the later of their greatest
pub greatest_at-append : (key : Key) (xs ys : List Item) → greatest_at key (xs ++ ys) ≡ later (greatest_at key xs) (greatest_at key ys)
greatest_at-append key xs ys =
    ap greatest (filter-append (λ x. has_key key x) xs ys)
    ∙ greatest-latest (of_key key xs ++ of_key key ys)
    ∙ latest-append (of_key key xs) (of_key key ys)
    ∙ sym (ap (later (greatest_at key xs)) (greatest-latest (of_key key ys)) ∙ ap (λ o. later o (latest (of_key key ys))) (greatest-latest (of_key key xs)))

-- ---- a list whose keys rise is its own best

-- no item of a key that is below all of them
none_of_lower : (key : Key) (xs : List Item) → AllAbove key xs → of_key key xs ≡ []
none_of_lower key [] all = refl
none_of_lower key (x ∷ xs) all = cond-false _ (x ∷ of_key key xs) (of_key key xs) (ap is_eq all.0) ∙ none_of_lower key xs all.1

-- in a rising list the greatest item of a key is the one with the key
pub greatest_at-rising : (key : Key) (xs : List Item) → IsRising xs → greatest_at key xs ≡ item_at key xs
unfolding IsStrictlySortedBy
greatest_at-rising key [] up = refl
greatest_at-rising key (x ∷ xs) up =
    by_cases (has_key key x)
    (λ e.
    let alone : of_key key xs ≡ [] = none_of_lower key xs (subst (λ q. AllAbove q xs) (sym (key_same key (key_of x) e)) up.0) in
    ap greatest (cond-true _ (x ∷ of_key key xs) (of_key key xs) e ∙ ap (λ zs. x ∷ zs) alone)
    ∙ greatest-latest (x ∷ [])
    ∙ sym (here_at key x xs e))
    (λ e. ap greatest (cond-false _ (x ∷ of_key key xs) (of_key key xs) e) ∙ greatest_at-rising key xs up.1 ∙ sym (later_at key x xs e))

-- the greatest item of a key of a best list is that of the list
pub greatest_at-best : (key : Key) (xs : List Item) → greatest_at key (best xs) ≡ greatest_at key xs
greatest_at-best key xs = greatest_at-rising key (best xs) (rising-best xs) ∙ at-best key xs

-- the best of a rising list is the list
pub best-rising : (xs : List Item) → IsRising xs → best xs ≡ xs
best-rising xs up = rising_same (best xs) xs (rising-best xs) up (λ key. at-best key xs ∙ greatest_at-rising key xs up)

-- the best of a best list is the list
pub best-best : (xs : List Item) → best (best xs) ≡ best xs
best-best xs = best-rising (best xs) (rising-best xs)

-- ---- joining

-- a list may be taken by its best, in front ..
pub best-append_best_left : (xs ys : List Item) → best (best xs ++ ys) ≡ best (xs ++ ys)
best-append_best_left xs ys =
    best_same (best xs ++ ys) (xs ++ ys)
    (λ key. greatest_at-append key (best xs) ys ∙ ap (λ o. later o (greatest_at key ys)) (greatest_at-best key xs) ∙ sym (greatest_at-append key xs ys))

-- .. and behind
pub best-append_best_right : (xs ys : List Item) → best (xs ++ best ys) ≡ best (xs ++ ys)
best-append_best_right xs ys =
    best_same (xs ++ best ys) (xs ++ ys)
    (λ key. greatest_at-append key xs (best ys) ∙ ap (later (greatest_at key xs)) (greatest_at-best key ys) ∙ sym (greatest_at-append key xs ys))

-- one item more
pub best-push : (xs : List Item) (y : Item) → best (xs ++ y ∷ []) ≡ joined (best xs) y
best-push xs y = sym (best-append_best_left xs (y ∷ []))

-- the best of two lists from the best of each
pub best-append : (xs ys : List Item) → best (xs ++ ys) ≡ merged (best xs) (best ys)
best-append xs ys = sym (best-append_best_left xs (best ys) ∙ best-append_best_right xs ys)

-- joining lists associates
pub merged_assoc : (xs ys zs : List Item) → merged (merged xs ys) zs ≡ merged xs (merged ys zs)
merged_assoc xs ys zs = best-append_best_left (xs ++ ys) zs ∙ ap best (append_assoc xs ys zs) ∙ sym (best-append_best_right xs (ys ++ zs))

-- the later of an item and itself is the item
pub later_same : (o : Option Item) → later o o ≡ o
later_same None = refl
later_same (Some x) = by_cases (exceeds x x) (λ e. cond-true _ (Some x) (Some x) e) (λ e. cond-false _ (Some x) (Some x) e)
