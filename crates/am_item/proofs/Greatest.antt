-- The item of a list that none of it exceeds, as the later of its items one by one.
use Rattle.std.proofs.Common.{◌≡◌, Bool, true, false, not, ◌&&◌, cond, List, [], ◌∷◌, ◌++◌, Option, Some, None, refl, sym, ap, ◌∙◌, subst}
use Rattle.std.specs.List.{find, list_all}
use Rattle.std.specs.Option.{MatchOption, is_some, unwrap_or}
use Rattle.std.specs.Ordering.{is_gt, ordering_reverse}
use Rattle.std.specs.declared.cmp.Ordering.{Ordering}
use Rattle.std.specs.declared.cmp.Ordering.TheVariants.{Less, Equal, Greater}
use Rattle.std.proofs.lemmas.Bool.{and_from, and_parts, cond-false, cond-true, false≢true, not-true, not_from_false, not_from_true, true≢false, and_right, false_from_ne_true}
use Rattle.std.proofs.lemmas.Cmp.{tied_itself, upto}
use Rattle.am_item.specs.declared.item.Item.{Item}
use Rattle.am_item.specs.Best.{greatest, none_exceeds}
use Rattle.am_item.specs.Key.{exceeds}
use Rattle.am_item.specs.Stamp.{stamp_cmp}
use Rattle.am_item.proofs.Order.{stamps_total}

-- a list without elements
abbrev is_empty : {X : Type 0} → List X → Bool
is_empty [] = true
is_empty (x ∷ xs) = false

-- what a test of one Bool gives, with the equation
pub by_cases : {G : Type 0} (b : Bool) → (b ≡ true → G) → (b ≡ false → G) → G
by_cases true if_true if_false = if_true refl
by_cases false if_true if_false = if_false refl

-- ---- the order of items by stamp

-- no item exceeds itself
pub exceeds_itself : (x : Item) → exceeds x x ≡ false
exceeds_itself x = ap is_gt (tied_itself stamps_total x.stamp)

-- what does not exceed what does not exceed x does not exceed x
pub not_exceeds_trans : (z y x : Item) → exceeds z y ≡ false → exceeds y x ≡ false → exceeds z x ≡ false
not_exceeds_trans z y x h k = upto stamps_total z.stamp y.stamp x.stamp h k

-- the other way round what was greater is not
turned : (r s : Ordering) → r ≡ ordering_reverse s → is_gt s ≡ true → is_gt r ≡ false
turned r Less e h = absurd (false≢true h)
turned r Equal e h = absurd (false≢true h)
turned r Greater e h = ap is_gt e

-- of two items at most one exceeds the other
pub exceeds_asym : (x y : Item) → exceeds x y ≡ true → exceeds y x ≡ false
exceeds_asym x y h = turned (stamp_cmp y.stamp x.stamp) (stamp_cmp x.stamp y.stamp) (stamps_total.antisymm y.stamp x.stamp) h

-- what exceeds what exceeds x exceeds x
pub exceeds_trans : (z y x : Item) → exceeds z y ≡ true → exceeds y x ≡ true → exceeds z x ≡ true
exceeds_trans z y x h k =
    by_cases (exceeds z x) (λ e. e) (λ e. absurd (true≢false (sym h ∙ not_exceeds_trans z x y e (exceeds_asym y x k))))

-- ---- the later of two, and of a list

-- the second where it exceeds the first, else the first
abbrev pub later : Option Item → Option Item → Option Item
later None y = y
later (Some x) None = Some x
later (Some x) (Some y) = cond (exceeds y x) (Some y) (Some x)

-- the latest of a list, one by one
abbrev pub latest : List Item → Option Item
latest [] = None
latest (x ∷ xs) = later (Some x) (latest xs)

-- nothing is no later
pub later-none : (a : Option Item) → later a None ≡ a
later-none None = refl
later-none (Some x) = refl

-- the later of three is the same in either grouping
pub later_assoc : (a b c : Option Item) → later a (later b c) ≡ later (later a b) c
later_assoc None b c = refl
later_assoc (Some x) None c = refl
later_assoc (Some x) (Some y) None = sym (later-none (later (Some x) (Some y)))
later_assoc (Some x) (Some y) (Some z) =
    by_cases (exceeds z y)
    (λ zy.
    ap (later (Some x)) (cond-true _ (Some z) (Some y) zy)
    ∙ by_cases (exceeds y x)
    (λ yx. cond-true _ (Some z) (Some x) (exceeds_trans z y x zy yx) ∙ sym (ap (λ o. later o (Some z)) (cond-true _ (Some y) (Some x) yx) ∙ cond-true _ (Some z) (Some y) zy))
    (λ yx. sym (ap (λ o. later o (Some z)) (cond-false _ (Some y) (Some x) yx))))
    (λ zy.
    ap (later (Some x)) (cond-false _ (Some z) (Some y) zy)
    ∙ by_cases (exceeds y x)
    (λ yx. cond-true _ (Some y) (Some x) yx ∙ sym (ap (λ o. later o (Some z)) (cond-true _ (Some y) (Some x) yx) ∙ cond-false _ (Some z) (Some y) zy))
    (λ yx. cond-false _ (Some y) (Some x) yx ∙ sym (ap (λ o. later o (Some z)) (cond-false _ (Some y) (Some x) yx) ∙ cond-false _ (Some z) (Some x) (not_exceeds_trans z y x zy yx))))

-- the latest of two lists is the later of their latest
pub latest-append : (xs ys : List Item) → latest (xs ++ ys) ≡ later (latest xs) (latest ys)
latest-append [] ys = refl
latest-append (x ∷ xs) ys = ap (later (Some x)) (latest-append xs ys) ∙ later_assoc (Some x) (latest xs) (latest ys)

-- ---- what a first place found

-- what two equal options hold is equal
pub some_same : {X : Type 0} (x y : X) → Some x ≡ Some y → x ≡ y
some_same x y h = ap (λ o. unwrap_or o x) h

-- what was found passes the test
pub find_passes : {X : Type 0} (p : X → Bool) (xs : List X) (g : X) → find p xs ≡ Some g → p g ≡ true
find_passes p [] g h = absurd (false≢true (ap is_some h))
find_passes p (x ∷ xs) g h =
    by_cases (p x)
    (λ e. subst (λ y. p y ≡ true) (some_same x g (sym (cond-true _ (Some x) (find p xs) e) ∙ h)) e)
    (λ e. find_passes p xs g (sym (cond-false _ (Some x) (find p xs) e) ∙ h))

-- what holds of each element holds of the one found
pub find_holds : {X : Type 0} (p t : X → Bool) (xs : List X) (g : X) → find p xs ≡ Some g → list_all t xs ≡ true → t g ≡ true
find_holds p t [] g h all = absurd (false≢true (ap is_some h))
find_holds p t (x ∷ xs) g h all =
    let parts = and_parts (t x) (list_all t xs) all in
    by_cases (p x)
    (λ e. subst (λ y. t y ≡ true) (some_same x g (sym (cond-true _ (Some x) (find p xs) e) ∙ h)) parts.0)
    (λ e. find_holds p t xs g (sym (cond-false _ (Some x) (find p xs) e) ∙ h) parts.1)

-- a second test that the one found passes changes nothing
pub find_narrower : {X : Type 0} (q p : X → Bool) (xs : List X) (g : X) → find p xs ≡ Some g → q g ≡ true → find (λ x. q x && p x) xs ≡ Some g
find_narrower q p [] g h k = absurd (false≢true (ap is_some h))
find_narrower q p (x ∷ xs) g h k =
    by_cases (p x)
    (λ e.
    let here = sym (cond-true _ (Some x) (find p xs) e) ∙ h in
    cond-true _ (Some x) (find (λ y. q y && p y) xs) (and_from (q x) (p x) (subst (λ y. q y ≡ true) (sym (some_same x g here)) k) e) ∙ here)
    (λ e. cond-false _ (Some x) (find (λ y. q y && p y) xs) (and_right (q x) (p x) e) ∙ find_narrower q p xs g (sym (cond-false _ (Some x) (find p xs) e) ∙ h) k)

-- a test that follows from another holds of each element where that does
pub all_weaker : {X : Type 0} (t u : X → Bool) → ((x : X) → t x ≡ true → u x ≡ true) → (xs : List X) → list_all t xs ≡ true → list_all u xs ≡ true
all_weaker t u f [] h = refl
all_weaker t u f (x ∷ xs) h = let parts = and_parts (t x) (list_all t xs) h in and_from (u x) (list_all u xs) (f x parts.0) (all_weaker t u f xs parts.1)

-- ---- the greatest is the latest

-- the greatest of one item is that item
first_of_all : (z : Item) (zs : List Item) → zs ≡ [] → greatest (z ∷ zs) ≡ Some z
first_of_all z [] h = cond-true _ (Some z) None (and_from (not (exceeds z z)) true (not_from_false (exceeds z z) (exceeds_itself z)) refl)
first_of_all z (y ∷ ys) h = absurd (false≢true (ap is_empty h))

-- the greatest of a list with one item more in front
with_one_more : (z g : Item) (zs : List Item) → greatest zs ≡ Some g → greatest (z ∷ zs) ≡ cond (exceeds g z) (Some g) (Some z)
with_one_more z g zs h =
    let rest = find (λ x. none_exceeds (z ∷ zs) x) zs in
    by_cases (exceeds g z)
    (λ e.
    let fails : none_exceeds zs z ≡ false = false_from_ne_true (none_exceeds zs z) (λ all. false≢true (sym (not_from_true (exceeds g z) e) ∙ find_holds (none_exceeds zs) (λ y. not (exceeds y z)) zs g h all)) in
    cond-false _ (Some z) rest (and_right (not (exceeds z z)) (none_exceeds zs z) fails)
    ∙ find_narrower (λ x. not (exceeds z x)) (λ x. none_exceeds zs x) zs g h (not_from_false (exceeds z g) (exceeds_asym g z e))
    ∙ sym (cond-true _ (Some g) (Some z) e))
    (λ e.
    let tops : none_exceeds zs z ≡ true = all_weaker (λ y. not (exceeds y g)) (λ y. not (exceeds y z)) (λ y k. not_from_false (exceeds y z) (not_exceeds_trans y g z (not-true (exceeds y g) k) e)) zs (find_passes (none_exceeds zs) zs g h) in
    cond-true _ (Some z) rest (and_from (not (exceeds z z)) (none_exceeds zs z) (not_from_false (exceeds z z) (exceeds_itself z)) tops)
    ∙ sym (cond-false _ (Some g) (Some z) e))

-- one step of the next lemma
next_found : (z : Item) (zs : List Item) (o : Option Item) → MatchOption o (zs ≡ []) (λ g. greatest zs ≡ Some g) → MatchOption (later (Some z) o) (z ∷ zs ≡ []) (λ g. greatest (z ∷ zs) ≡ Some g)
next_found z zs None h = first_of_all z zs h
next_found z zs (Some g) h =
    by_cases (exceeds g z)
    (λ e. subst (λ o. MatchOption o (z ∷ zs ≡ []) (λ x. greatest (z ∷ zs) ≡ Some x)) (sym (cond-true _ (Some g) (Some z) e)) (with_one_more z g zs h ∙ cond-true _ (Some g) (Some z) e))
    (λ e. subst (λ o. MatchOption o (z ∷ zs ≡ []) (λ x. greatest (z ∷ zs) ≡ Some x)) (sym (cond-false _ (Some g) (Some z) e)) (with_one_more z g zs h ∙ cond-false _ (Some g) (Some z) e))

-- the greatest of an empty list is none, of another the latest
latest_found : (zs : List Item) → MatchOption (latest zs) (zs ≡ []) (λ g. greatest zs ≡ Some g)
latest_found [] = refl
latest_found (z ∷ zs) = next_found z zs (latest zs) (latest_found zs)

-- what is found is the greatest
matched : (zs : List Item) (o : Option Item) → MatchOption o (zs ≡ []) (λ g. greatest zs ≡ Some g) → greatest zs ≡ o
matched zs None h = ap greatest h
matched zs (Some g) h = h

-- the item that none exceeds is the latest one by one
pub greatest-latest : (zs : List Item) → greatest zs ≡ latest zs
greatest-latest zs = matched zs (latest zs) (latest_found zs)
