-- What the best of a list is, item by item, and that nothing else is.
use Rattle.std.proofs.Common.{◌≡◌, Bool, true, false, not, ◌||◌, List, [], ◌∷◌, Option, Some, None, refl, sym, ap, ◌∙◌, subst}
use Rattle.std.specs.Cmp.{eq_by_cmp_equiv, on_equiv}
use Rattle.std.specs.List.{All, AllByRecursion, Contains, cons_option, filter_map, find, list_all, list_any}
use Rattle.std.specs.Option.{IsSome, is_some}
use Rattle.std.specs.Ordering.{is_eq, is_gt, ordering_reverse}
use Rattle.std.specs.declared.cmp.Ordering.{Ordering}
use Rattle.std.specs.declared.cmp.Ordering.TheVariants.{Less, Equal, Greater}
use Rattle.std.proofs.lemmas.Bool.{and_parts, cond-false, cond-true, false≢true, not-true, true≢false}
use Rattle.std.proofs.lemmas.List.Elements.{All-contains, All-contains_itself, All-from_recursion, recursion_from_All}
use Rattle.std.proofs.lemmas.Map.Views.{list_any-from_Contains}
use Rattle.am_item.specs.declared.item.Item.{Item}
use Rattle.am_item.specs.Best.{IsBestOf, StampsTellApart, best, item_at, keys_of, none_exceeds, of_key}
use Rattle.am_item.specs.Key.{Key, exceeds, has_key, key_cmp, key_of}
use Rattle.am_item.specs.Stamp.{stamp_cmp}
use Rattle.am_item.proofs.BestLaws.{at-best, greatest_at, greatest_keyed, rising-best}
use Rattle.am_item.proofs.Greatest.{by_cases, find_passes, greatest-latest, later, latest, some_same}
use Rattle.am_item.proofs.Keys.{key_itself, key_same}
use Rattle.am_item.proofs.Order.{keys_total, stamps_exact, stamps_total}
use Rattle.am_item.proofs.Rising.{rising_same}

-- ---- what holds of each element

-- what holds of each element holds of the one found
find_of : {X : Type 0} (P : X → Type 0) (p : X → Bool) (xs : List X) (g : X) → find p xs ≡ Some g → AllByRecursion P xs → P g
find_of P p [] g h all = absurd (false≢true (ap is_some h))
find_of P p (x ∷ xs) g h all =
    by_cases (p x)
    (λ e. subst P (some_same x g (sym (cond-true _ (Some x) (find p xs) e) ∙ h)) all.0)
    (λ e. find_of P p xs g (sym (cond-false _ (Some x) (find p xs) e) ∙ h) all.1)

-- what holds of each item holds of each of a key
kept_of : (P : Item → Type 0) (key : Key) (xs : List Item) → AllByRecursion P xs → AllByRecursion P (of_key key xs)
kept_of P key [] all = tt
kept_of P key (x ∷ xs) all =
    by_cases (has_key key x)
    (λ e. subst (AllByRecursion P) (sym (cond-true _ (x ∷ of_key key xs) (of_key key xs) e)) (all.0, kept_of P key xs all.1))
    (λ e. subst (AllByRecursion P) (sym (cond-false _ (x ∷ of_key key xs) (of_key key xs) e)) (kept_of P key xs all.1))

-- the greatest item of a key is an item of the list
pub greatest_among : (key : Key) (xs : List Item) (g : Item) → greatest_at key xs ≡ Some g → Contains xs g
greatest_among key xs g h = find_of (Contains xs) (none_exceeds (of_key key xs)) (of_key key xs) g h (kept_of (Contains xs) key xs (recursion_from_All (Contains xs) xs (All-contains_itself xs)))

-- one step of the next lemma
made_next : (P : Item → Type 0) (xs : List Item) (o : Option Item) → ((x : Item) → o ≡ Some x → P x) → AllByRecursion P xs → AllByRecursion P (cons_option o xs)
made_next P xs None h all = all
made_next P xs (Some x) h all = (h x refl, all)

-- what holds of all that keys give holds of each item made of keys
all_made : (P : Item → Type 0) (f : Key → Option Item) → ((key : Key) (x : Item) → f key ≡ Some x → P x) → (qs : List Key) → AllByRecursion P (filter_map f qs)
all_made P f h [] = tt
all_made P f h (q ∷ qs) = made_next P (filter_map f qs) (f q) (h q) (all_made P f h qs)

-- what holds of the greatest of each key holds of each item of the best
all_best : (P : Item → Type 0) (xs : List Item) → ((key : Key) (x : Item) → greatest_at key xs ≡ Some x → P x) → All P (best xs)
unfolding best
all_best P xs h = All-from_recursion P (filter_map (λ key. greatest_at key xs) (keys_of xs)) (all_made P (λ key. greatest_at key xs) h (keys_of xs))

-- ---- item by item

-- a test of each item of a key is one of each item that has the key
tests_of : (t : Item → Bool) (key : Key) (xs : List Item) → list_all t (of_key key xs) ≡ true → AllByRecursion (λ x. has_key key x ≡ true → t x ≡ true) xs
tests_of t key [] h = tt
tests_of t key (x ∷ xs) h =
    by_cases (has_key key x)
    (λ e.
    let parts = and_parts (t x) (list_all t (of_key key xs)) (sym (ap (list_all t) (cond-true _ (x ∷ of_key key xs) (of_key key xs) e)) ∙ h) in
    (λ _. parts.0, tests_of t key xs parts.1))
    (λ e. (λ k. absurd (true≢false (sym k ∙ e)), tests_of t key xs (sym (ap (list_all t) (cond-false _ (x ∷ of_key key xs) (of_key key xs) e)) ∙ h)))

-- no item of a key exceeds the greatest of it
not_exceeded : (key : Key) (xs : List Item) (g x : Item) → greatest_at key xs ≡ Some g → Contains xs x → key_of x ≡ key_of g → exceeds x g ≡ false
not_exceeded key xs g x h here same =
    let tops = find_passes (none_exceeds (of_key key xs)) (of_key key xs) g h in
    let all = All-from_recursion (λ y. has_key key y ≡ true → not (exceeds y g) ≡ true) xs (tests_of (λ y. not (exceeds y g)) key xs tops) in
    let has : has_key key x ≡ true = ap (λ q. is_eq (key_cmp key q)) (same ∙ greatest_keyed xs key g h) ∙ key_itself key in
    not-true (exceeds x g) (All-contains (λ y. has_key key y ≡ true → not (exceeds y g) ≡ true) xs x all here has)

-- a list with an item has the item's key
any_here : (xs : List Item) (x : Item) → Contains xs x → list_any (λ y. has_key (key_of x) y) xs ≡ true
any_here xs x here = list_any-from_Contains (on_equiv key_of (eq_by_cmp_equiv keys_total)) x xs here

-- the later of an item and another is an item
later_some : (x : Item) (o : Option Item) → IsSome (later (Some x) o)
later_some x None = refl
later_some x (Some y) = by_cases (exceeds y x) (λ e. ap is_some (cond-true _ (Some y) (Some x) e)) (λ e. ap is_some (cond-false _ (Some y) (Some x) e))

-- a key that an item has has a latest item
latest_some : (key : Key) (xs : List Item) → list_any (λ y. has_key key y) xs ≡ true → IsSome (latest (of_key key xs))
latest_some key [] h = absurd (false≢true h)
latest_some key (x ∷ xs) h =
    by_cases (has_key key x)
    (λ e. subst (λ zs. IsSome (latest zs)) (sym (cond-true _ (x ∷ of_key key xs) (of_key key xs) e)) (later_some x (latest (of_key key xs))))
    (λ e. subst (λ zs. IsSome (latest zs)) (sym (cond-false _ (x ∷ of_key key xs) (of_key key xs) e)) (latest_some key xs (ap (λ b. b || list_any (λ y. has_key key y) xs) (sym e) ∙ h)))

-- each key of a list is in its best
key_there : (xs : List Item) (x : Item) → Contains xs x → IsSome (item_at (key_of x) (best xs))
key_there xs x here = subst IsSome (sym (at-best (key_of x) xs ∙ greatest-latest (of_key (key_of x) xs))) (latest_some (key_of x) xs (any_here xs x here))

-- the best of a list is best item by item
pub best_is_best : (xs : List Item) → IsBestOf xs (best xs)
best_is_best xs = record {
  rising = rising-best xs;
  among = all_best (Contains xs) xs (λ key x h. greatest_among key xs x h);
  unexceeded = λ b x here. All-contains (λ g. Contains xs x → key_of x ≡ key_of g → exceeds x g ≡ false) (best xs) b (all_best (λ g. Contains xs x → key_of x ≡ key_of g → exceeds x g ≡ false) xs (λ key g h. not_exceeded key xs g x h)) here;
  each_key = key_there xs;
}

-- ---- nothing else

-- what is greater neither way is equal
tied : (r s : Ordering) → r ≡ ordering_reverse s → is_gt r ≡ false → is_gt s ≡ false → r ≡ Equal
tied Less Less e h k = absurd (true≢false (sym (ap is_gt e)))
tied Less Equal e h k = absurd (false≢true (ap is_eq e))
tied Less Greater e h k = absurd (true≢false k)
tied Equal s e h k = refl
tied Greater s e h k = absurd (true≢false h)

-- two items of which none exceeds the other have one stamp
pub stamps_same : (x y : Item) → exceeds x y ≡ false → exceeds y x ≡ false → x.stamp ≡ y.stamp
stamps_same x y h k = stamps_exact x.stamp y.stamp (tied (stamp_cmp x.stamp y.stamp) (stamp_cmp y.stamp x.stamp) (stamps_total.antisymm x.stamp y.stamp) h k)

-- what a look-up finds is in the list, and has the key
at_among : (key : Key) (xs : List Item) (x : Item) → item_at key xs ≡ Some x → Contains xs x
at_among key xs x h = find_of (Contains xs) (λ y. has_key key y) xs x h (recursion_from_All (Contains xs) xs (All-contains_itself xs))

-- what a look-up finds has the key
pub at_keyed : (key : Key) (xs : List Item) (x : Item) → item_at key xs ≡ Some x → key_of x ≡ key
at_keyed key xs x h = sym (key_same key (key_of x) (find_passes (λ y. has_key key y) xs x h))

-- what one best list has at a key another has too
also_there : (xs bs cs : List Item) → IsBestOf xs bs → IsBestOf xs cs → (key : Key) (x : Item) → item_at key bs ≡ Some x → IsSome (item_at key cs)
also_there xs bs cs b c key x h =
    subst (λ q. IsSome (item_at q cs)) (at_keyed key bs x h) (c.each_key x (All-contains (Contains xs) bs x b.among (at_among key bs x h)))

-- two best lists have the same at each key
same_there : (xs bs cs : List Item) → StampsTellApart xs → IsBestOf xs bs → IsBestOf xs cs → (key : Key) (o p : Option Item) → item_at key bs ≡ o → item_at key cs ≡ p → o ≡ p
same_there xs bs cs tell b c key None None h k = refl
same_there xs bs cs tell b c key None (Some y) h k = absurd (false≢true (ap is_some (sym h) ∙ also_there xs cs bs c b key y k))
same_there xs bs cs tell b c key (Some x) None h k = absurd (false≢true (ap is_some (sym k) ∙ also_there xs bs cs b c key x h))
same_there xs bs cs tell b c key (Some x) (Some y) h k =
    let x_held = at_among key bs x h in
    let y_held = at_among key cs y k in
    let x_here = All-contains (Contains xs) bs x b.among x_held in
    let y_here = All-contains (Contains xs) cs y c.among y_held in
    let same = at_keyed key bs x h ∙ sym (at_keyed key cs y k) in
    ap Some (tell x y x_here y_here same (stamps_same x y (c.unexceeded y x y_held x_here same) (b.unexceeded x y x_held y_here (sym same))))

-- there is one best list, where stamps tell items apart
pub best_is_only : (xs bs : List Item) → StampsTellApart xs → IsBestOf xs bs → bs ≡ best xs
best_is_only xs bs tell b =
    rising_same bs (best xs) b.rising (rising-best xs)
    (λ key. same_there xs bs (best xs) tell b (best_is_best xs) key (item_at key bs) (item_at key (best xs)) refl refl)
