-- Keys: what their order tells, and the list of the keys of a list.
use Rattle.std.proofs.Common.{◌≡◌, Bool, true, false, ◌||◌, List, [], ◌∷◌, refl, sym, ap, ◌∙◌, subst}
use Rattle.std.specs.BTreeSet.{insert_key}
use Rattle.std.specs.Cmp.{Equal-is}
use Rattle.std.specs.List.{AllByRecursion, list_any}
use Rattle.std.specs.List.Sorted.{IsStrictlySortedBy}
use Rattle.std.specs.Ordering.{is_eq, match_ordering, ordering_reverse}
use Rattle.std.specs.declared.cmp.Ordering.{Ordering}
use Rattle.std.specs.declared.cmp.Ordering.TheVariants.{Less, Equal, Greater}
use Rattle.std.proofs.lemmas.Cmp.{tied_itself}
use Rattle.am_item.specs.declared.item.Item.{Item}
use Rattle.am_item.specs.Best.{keys_of}
use Rattle.am_item.specs.Key.{Key, has_key, key_cmp, key_of}
use Rattle.am_item.proofs.Order.{keys_exact, keys_total}

-- the three answers of a comparison, each with the equation
pub by_order : {G : Type 0} (o : Ordering) → (o ≡ Less → G) → (o ≡ Equal → G) → (o ≡ Greater → G) → G
by_order Less l e g = l refl
by_order Equal l e g = e refl
by_order Greater l e g = g refl

-- a key is the same as itself
pub key_itself : (k : Key) → is_eq (key_cmp k k) ≡ true
key_itself k = ap is_eq (tied_itself keys_total k)

-- the test of keys tells which are equal
pub key_same : (k q : Key) → is_eq (key_cmp k q) ≡ true → k ≡ q
key_same k q h = keys_exact k q ((Equal-is (key_cmp k q)).0 h)

-- what is greater one way is less the other way ..
pub below_turned : (k q : Key) → key_cmp k q ≡ Greater → key_cmp q k ≡ Less
below_turned k q h = keys_total.antisymm q k ∙ ap ordering_reverse h

-- .. and the other way round
pub above_turned : (k q : Key) → key_cmp k q ≡ Less → key_cmp q k ≡ Greater
above_turned k q h = keys_total.antisymm q k ∙ ap ordering_reverse h

-- what is below the first of rising keys is below all
pub all_below : (k q : Key) (qs : List Key) → key_cmp k q ≡ Less → AllByRecursion (λ p. key_cmp q p ≡ Less) qs → AllByRecursion (λ p. key_cmp k p ≡ Less) qs
all_below k q [] h all = tt
all_below k q (p ∷ qs) h all = (keys_total.trans k q p h all.0, all_below k q qs h all.1)

-- what holds of each key and of one more holds of each with that one put in
all_insert : (P : Key → Type 0) (ks : List Key) (k : Key) → AllByRecursion P ks → P k → AllByRecursion P (insert_key key_cmp ks k)
all_insert P [] k all here = (here, tt)
all_insert P (q ∷ qs) k all here =
    let Goal : Ordering → Type 0 = λ o. AllByRecursion P (match_ordering o (k ∷ q ∷ qs) (q ∷ qs) (q ∷ insert_key key_cmp qs k)) in
    by_order (key_cmp k q)
    (λ e. subst Goal (sym e) (here, all))
    (λ e. subst Goal (sym e) all)
    (λ e. subst Goal (sym e) (all.0, all_insert P qs k all.1 here))

-- rising keys with one more put in rise
sorted_insert : (ks : List Key) (k : Key) → IsStrictlySortedBy key_cmp ks → IsStrictlySortedBy key_cmp (insert_key key_cmp ks k)
unfolding IsStrictlySortedBy
sorted_insert [] k s = (tt, tt)
sorted_insert (q ∷ qs) k s =
    let Goal : Ordering → Type 0 = λ o. IsStrictlySortedBy key_cmp (match_ordering o (k ∷ q ∷ qs) (q ∷ qs) (q ∷ insert_key key_cmp qs k)) in
    by_order (key_cmp k q)
    (λ e. subst Goal (sym e) ((e, all_below k q qs e s.0), s))
    (λ e. subst Goal (sym e) s)
    (λ e. subst Goal (sym e) (all_insert (λ p. key_cmp q p ≡ Less) qs k s.0 (below_turned k q e), sorted_insert qs k s.1))

-- the keys of a list rise
pub sorted_keys : (xs : List Item) → IsStrictlySortedBy key_cmp (keys_of xs)
unfolding IsStrictlySortedBy
sorted_keys [] = tt
sorted_keys (x ∷ xs) = sorted_insert (keys_of xs) (key_of x) (sorted_keys xs)

-- tests of three in another order
or_swap : (a b c : Bool) → (a || (b || c)) ≡ (b || (a || c))
or_swap true true c = refl
or_swap true false c = refl
or_swap false true c = refl
or_swap false false c = refl

-- a test that is made twice
or_again : (a c : Bool) → (a || c) ≡ (a || (a || c))
or_again true c = refl
or_again false c = refl

-- a key is among keys with one more put in if it is that one or was among them
any_insert : (k : Key) (qs : List Key) (q : Key) → list_any (λ p. is_eq (key_cmp k p)) (insert_key key_cmp qs q) ≡ (is_eq (key_cmp k q) || list_any (λ p. is_eq (key_cmp k p)) qs)
any_insert k [] q = refl
any_insert k (p ∷ qs) q =
    let test : Key → Bool = λ r. is_eq (key_cmp k r) in
    let found : Ordering → Bool = λ o. list_any test (match_ordering o (q ∷ p ∷ qs) (p ∷ qs) (p ∷ insert_key key_cmp qs q)) in
    by_order (key_cmp q p)
    (λ e. ap found e)
    (λ e. ap found e ∙ or_again (test p) (list_any test qs) ∙ ap (λ r. test r || (test p || list_any test qs)) (sym (keys_exact q p e)))
    (λ e. ap found e ∙ ap (λ b. test p || b) (any_insert k qs q) ∙ or_swap (test p) (test q) (list_any test qs))

-- a key is among the keys of a list exactly if an item has it
pub any_key : (k : Key) (xs : List Item) → list_any (λ p. is_eq (key_cmp k p)) (keys_of xs) ≡ list_any (λ x. has_key k x) xs
any_key k [] = refl
any_key k (x ∷ xs) = any_insert k (keys_of xs) (key_of x) ∙ ap (λ b. has_key k x || b) (any_key k xs)
