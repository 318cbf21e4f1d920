-- Timers in order, of which no two are equal, are in strict order.
use Rattle.std.proofs.Common.{◌≡◌, ℕ, ◌+◌, ◌≤◌, Bool, true, false, ◌||◌, cond, List, [], ◌∷◌, ◌++◌, zero, suc, Ordering, Less, Equal, Greater, refl, sym, ap, ◌∙◌, zero-add, arith}
use Rattle.std.specs.List.{All, AllByRecursion, AllPairs, count_by}
use Rattle.std.specs.List.Sorted.{IsPermutation, IsSorted, IsStrictlySortedBy}
use Rattle.std.specs.Ordering.{is_eq, is_lt, ordering_reverse}
use Rattle.std.proofs.lemmas.Bool.{false≢true}
use Rattle.std.proofs.lemmas.List.Elements.{All-head, All-tail}
use Rattle.std.proofs.lemmas.List.Sorted.{ranks_by, sorted_far, sum_by-IsPermutation}
use Rattle.std.proofs.lemmas.List.Sums.{sum_by-append, sum_by-cons}
use Rattle.am_timer.specs.Tied.{has_timer}
use Rattle.am_timer.specs.Timer.{Timer, timer_cmp}
use Rattle.am_timer.proofs.Orders.{same_timer, timer_itself, timers_total}

-- how often a timer is there
abbrev pub times : Timer → List Timer → ℕ
times q xs = count_by (λ x. is_eq (timer_cmp q x)) xs

times-cons : (q x : Timer) (xs : List Timer) → times q (x ∷ xs) ≡ cond (is_eq (timer_cmp q x)) 1 0 + times q xs
times-cons q x xs = sum_by-cons (λ x. cond (is_eq (timer_cmp q x)) 1 0) x xs

pub times-append : (q : Timer) (xs ys : List Timer) → times q (xs ++ ys) ≡ times q xs + times q ys
times-append q xs ys = sum_by-append (λ x. cond (is_eq (timer_cmp q x)) 1 0) xs ys

-- one that isn't there is there no time
pub no_time : (q : Timer) (xs : List Timer) → has_timer xs q ≡ false → times q xs ≡ 0
no_time q [] none = refl
no_time q (x ∷ xs) none = by (is_eq (timer_cmp q x)) refl none (no_time q xs)
  where
    by : (b : Bool) → is_eq (timer_cmp q x) ≡ b → (b || has_timer xs q) ≡ false → (has_timer xs q ≡ false → times q xs ≡ 0) → times q (x ∷ xs) ≡ 0
    by true e none rest = absurd (false≢true (sym none))
    by false e none rest = times-cons q x xs ∙ rw e (zero-add (times q xs) ∙ rest none)

-- in strict order each is there once at most
not_equal : (o : Ordering) → o ≡ Less → is_eq o ≡ false
not_equal o less = ap is_eq less

none_more : (x : Timer) (xs : List Timer) → AllByRecursion (λ y. timer_cmp x y ≡ Less) xs → times x xs ≡ 0
none_more x [] above = refl
none_more x (y ∷ ys) above = times-cons x y ys ∙ rw (not_equal (timer_cmp x y) above.0) (zero-add (times x ys) ∙ none_more x ys above.1)

pub once_at_most : (q : Timer) (xs : List Timer) → IsStrictlySortedBy timer_cmp xs → times q xs ≤ 1
unfolding IsStrictlySortedBy
once_at_most q [] rising = omega arith
once_at_most q (x ∷ xs) rising = by (is_eq (timer_cmp q x)) refl (once_at_most q xs rising.1)
  where
    by : (b : Bool) → is_eq (timer_cmp q x) ≡ b → times q xs ≤ 1 → times q (x ∷ xs) ≤ 1
    by true e rest =
        let none : times q xs ≡ 0 = ap (λ y. times y xs) (same_timer q x e) ∙ none_more x xs rising.0 in
        let whole : times q (x ∷ xs) ≡ 1 + times q xs = times-cons q x xs ∙ rw e refl in
        omega (arith, none, whole)
    by false e rest =
        let whole : times q (x ∷ xs) ≡ 0 + times q xs = times-cons q x xs ∙ rw e refl in
        omega (arith, rest, whole)

-- ---- back

turned : (a b : Ordering) → a ≡ ordering_reverse b → is_lt b ≡ false → is_eq a ≡ false → a ≡ Less
turned a Less is not_less apart = absurd (false≢true (sym not_less))
turned a Equal is not_less apart = absurd (false≢true (sym apart ∙ ap is_eq is))
turned a Greater is not_less apart = is

above_first : (x : Timer) (xs : List Timer) → All (λ y. is_lt (timer_cmp y x) ≡ false) xs → times x xs ≡ 0 → AllByRecursion (λ y. timer_cmp x y ≡ Less) xs
above_first x [] above none = tt
above_first x (y ∷ ys) above none =
    let whole : cond (is_eq (timer_cmp x y)) 1 0 + times x ys ≡ 0 = sym (times-cons x y ys) ∙ none in
    let rest : times x ys ≡ 0 = omega (arith, whole) in (
      turned (timer_cmp x y) (timer_cmp y x) (timers_total.antisymm x y) (All-head (λ y. is_lt (timer_cmp y x) ≡ false) y ys above) (no_one (is_eq (timer_cmp x y)) (times x ys) whole),
      above_first x ys (All-tail (λ y. is_lt (timer_cmp y x) ≡ false) y ys above) rest,
    )
  where
    no_one : (b : Bool) (n : ℕ) → cond b 1 0 + n ≡ 0 → b ≡ false
    no_one true n is = absurd (omega (arith, is))
    no_one false n is = refl

strict_from : (xs : List Timer) → AllPairs (λ x y. is_lt (timer_cmp y x) ≡ false) xs → ((q : Timer) → times q xs ≤ 1) → IsStrictlySortedBy timer_cmp xs
unfolding IsStrictlySortedBy
strict_from [] up once = tt
strict_from (x ∷ xs) up once =
    let above : All (λ y. is_lt (timer_cmp y x) ≡ false) xs = λ j d inside. up zero (suc j) d (omega arith) (omega arith) in
    let rest : AllPairs (λ x y. is_lt (timer_cmp y x) ≡ false) xs = λ i j d below inside. up (suc i) (suc j) d (omega arith) (omega arith) in
    let itself : cond (is_eq (timer_cmp x x)) 1 0 + times x xs ≤ 1 = rw (← times-cons x x xs) (once x) in
    let none : times x xs ≡ 0 = by_itself (is_eq (timer_cmp x x)) (times x xs) (timer_itself x) itself in
    (above_first x xs above none, strict_from xs rest (λ q. fewer (is_eq (timer_cmp q x)) (times q xs) (rw (← times-cons q x xs) (once q))))
  where
    by_itself : (b : Bool) (n : ℕ) → b ≡ true → cond b 1 0 + n ≤ 1 → n ≡ 0
    by_itself true n is le = omega (arith, le)
    by_itself false n is le = absurd (false≢true is)

    fewer : (b : Bool) (n : ℕ) → cond b 1 0 + n ≤ 1 → n ≤ 1
    fewer true n le = omega (arith, le)
    fewer false n le = omega (arith, le)

-- a list that is sorted has the timers that it had, which are there once at most
pub strict : (xs ys : List Timer) → ((q : Timer) → times q xs ≤ 1) → IsPermutation xs ys → IsSorted timer_cmp ys → IsStrictlySortedBy timer_cmp ys
strict xs ys once moved sorted =
    strict_from ys (λ i j d below inside. sorted_far _ (ranks_by timers_total (λ x. x)) ys sorted i j d (omega arith) inside)
    (λ q. rw (sum_by-IsPermutation (λ x. cond (is_eq (timer_cmp q x)) 1 0) xs ys moved) (once q))
