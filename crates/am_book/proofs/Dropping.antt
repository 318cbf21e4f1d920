-- Rising lists without the items of a key, or without those that a test leaves out.
use Rattle.std.proofs.Common.{◌≡◌, Bool, true, false, cond, List, [], ◌∷◌, Option, Some, None, Result, Ok, Err, OnOk, OnErr, refl, sym, ap, ◌∙◌, subst}
use Rattle.std.specs.List.{filter}
use Rattle.std.specs.List.Sorted.{IsStrictlySortedBy}
use Rattle.std.specs.Option.{is_some}
use Rattle.std.specs.Ordering.{is_eq}
use Rattle.std.proofs.lemmas.Bool.{cond-false, cond-true, false≢true, not_from_false, not_from_true}
use Rattle.am_item.specs.declared.item.Item.{Item}
use Rattle.am_item.specs.declared.key.ThingKey.{ThingKey}
use Rattle.am_item.specs.Best.{IsRising, item_at}
use Rattle.am_item.specs.Key.{has_key, key_cmp, key_of}
use Rattle.am_item.proofs.Greatest.{by_cases, some_same}
use Rattle.am_item.proofs.Keys.{key_itself, key_same}
use Rattle.am_item.proofs.Removed.{kept_above, lacks_key}
use Rattle.am_item.proofs.Rising.{AllAbove, first_at, here_at, later_at, none_above}

-- what a test leaves in is above what all are above
pub above_filter : (p : Item → Bool) (k : ThingKey) (xs : List Item) → AllAbove k xs → AllAbove k (filter p xs)
above_filter p k [] all = tt
above_filter p k (x ∷ xs) all =
    by_cases (p x)
    (λ e. subst (AllAbove k) (sym (cond-true _ (x ∷ filter p xs) (filter p xs) e)) (all.0, above_filter p k xs all.1))
    (λ e. subst (AllAbove k) (sym (cond-false _ (x ∷ filter p xs) (filter p xs) e)) (above_filter p k xs all.1))

-- what a test leaves in of a rising list rises
pub rising-filter : (p : Item → Bool) (xs : List Item) → IsRising xs → IsRising (filter p xs)
unfolding IsStrictlySortedBy
rising-filter p [] up = tt
rising-filter p (x ∷ xs) up =
    by_cases (p x)
    (λ e. subst (λ zs. IsRising zs) (sym (cond-true _ (x ∷ filter p xs) (filter p xs) e)) (above_filter p (key_of x) xs up.0, rising-filter p xs up.1))
    (λ e. subst (λ zs. IsRising zs) (sym (cond-false _ (x ∷ filter p xs) (filter p xs) e)) (rising-filter p xs up.1))

-- a rising list rises whether what fails a test went, or all stayed
pub rising_left : {T E : Type 0} (r : Result T E) (p : Item → Bool) (was now : List Item) → OnOk r (now ≡ filter p was) → OnErr r (now ≡ was) → IsRising was → IsRising now
rising_left (Ok _) p was now gone _ up = rw gone (rising-filter p was up)
rising_left (Err _) p was now _ stay up = rw stay up

-- a look-up where the items of a key are gone
pub at-lacking : (q k : ThingKey) (xs : List Item) → item_at q (filter (lacks_key k) xs) ≡ cond (is_eq (key_cmp q k)) None (item_at q xs)
at-lacking q k [] =
    let none : Option Item = None in
    by_cases (is_eq (key_cmp q k)) (λ e. sym (cond-true (is_eq (key_cmp q k)) none none e)) (λ e. sym (cond-false (is_eq (key_cmp q k)) none none e))
at-lacking q k (x ∷ xs) =
    let rest = filter (lacks_key k) xs in
    by_cases (has_key k x)
    (λ e.
    let gone : item_at q (filter (lacks_key k) (x ∷ xs)) ≡ item_at q rest = ap (item_at q) (cond-false _ (x ∷ rest) rest (not_from_true (has_key k x) e)) in
    gone ∙ at-lacking q k xs
    ∙ by_cases (is_eq (key_cmp q k))
    (λ h. cond-true _ None (item_at q xs) h ∙ sym (cond-true _ None (item_at q (x ∷ xs)) h))
    (λ h. ap (cond (is_eq (key_cmp q k)) None) (sym (later_at q x xs (ap (λ key. is_eq (key_cmp q key)) (sym (key_same k (key_of x) e)) ∙ h)))))
    (λ e.
    let stays : item_at q (filter (lacks_key k) (x ∷ xs)) ≡ item_at q (x ∷ rest) = ap (item_at q) (cond-true _ (x ∷ rest) rest (not_from_false (has_key k x) e)) in
    stays
    ∙ by_cases (has_key q x)
    (λ h.
    let apart : is_eq (key_cmp q k) ≡ false = ap (λ key. is_eq (key_cmp key k)) (key_same q (key_of x) h) ∙ apart_turned k (key_of x) e in
    here_at q x rest h ∙ sym (cond-false _ None (item_at q (x ∷ xs)) apart ∙ here_at q x xs h))
    (λ h. later_at q x rest h ∙ at-lacking q k xs ∙ ap (cond (is_eq (key_cmp q k)) None) (sym (later_at q x xs h))))
  where
    apart_turned : (a b : ThingKey) → is_eq (key_cmp a b) ≡ false → is_eq (key_cmp b a) ≡ false
    apart_turned a b h = by_cases (is_eq (key_cmp b a)) (λ e. absurd (false≢true (sym h ∙ ap (λ c. is_eq (key_cmp c b)) (sym (key_same b a e)) ∙ key_itself b))) (λ e. e)

-- a test that leaves out the item of a key leaves as much once that item is gone
pub filter-lacking : (p : Item → Bool) (k : ThingKey) (x : Item) (xs : List Item) → IsRising xs → item_at k xs ≡ Some x → p x ≡ false → filter p (filter (lacks_key k) xs) ≡ filter p xs
unfolding IsStrictlySortedBy
filter-lacking p k x [] up at out = absurd (false≢true (ap is_some at))
filter-lacking p k x (y ∷ ys) up at out =
    let rest = filter (lacks_key k) ys in
    by_cases (has_key k y)
    (λ e.
    let same : y ≡ x = some_same y x (sym (here_at k y ys e) ∙ at) in
    let above : AllAbove k ys = subst (λ q. AllAbove q ys) (sym (key_same k (key_of y) e)) up.0 in
    ap (filter p) (cond-false _ (y ∷ rest) rest (not_from_true (has_key k y) e) ∙ kept_above k ys above)
    ∙ sym (cond-false _ (y ∷ filter p ys) (filter p ys) (ap p same ∙ out)))
    (λ e.
    let ih : filter p rest ≡ filter p ys = filter-lacking p k x ys up.1 (sym (later_at k y ys e) ∙ at) out in
    ap (filter p) (cond-true _ (y ∷ rest) rest (not_from_false (has_key k y) e))
    ∙ ap (cond (p y) (y ∷ filter p rest)) ih ∙ ap (λ zs. cond (p y) (y ∷ zs) (filter p ys)) ih)

-- a test that each item passes which a look-up finds leaves all
pub filter_found : (p : Item → Bool) (xs : List Item) → IsRising xs → ((k : ThingKey) (x : Item) → item_at k xs ≡ Some x → p x ≡ true) → filter p xs ≡ xs
unfolding IsStrictlySortedBy
filter_found p [] up h = refl
filter_found p (y ∷ ys) up h =
    cond-true _ (y ∷ filter p ys) (filter p ys) (h (key_of y) y (first_at y ys))
    ∙ ap (λ zs. y ∷ zs) (filter_found p ys up.1 (λ k x at.
    by_cases (has_key k y)
    (λ e. absurd (false≢true (ap is_some (sym (none_above k ys (subst (λ q. AllAbove q ys) (sym (key_same k (key_of y) e)) up.0)) ∙ at))))
    (λ e. h k x (later_at k y ys e ∙ at))))
