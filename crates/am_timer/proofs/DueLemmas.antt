-- What is due of timers in order.
use Rattle.std.proofs.Common.{◌≡◌, ◌≤◌, ℕ, true, false, nat_le, List, [], ◌∷◌, ◌++◌, Ordering, Less, refl, sym, ap, ◌∙◌, append_assoc, append-nil, arith}
use Rattle.std.specs.List.{AllByRecursion}
use Rattle.std.specs.List.Sorted.{IsStrictlySortedBy}
use Rattle.std.specs.Ordering.{is_gt, nat_cmp, ordering_then}
use Rattle.std.proofs.lemmas.Bool.Decides.{nat_tests}
use Rattle.am_timer.specs.Timer.{Timer, name_cmp, timer_cmp}
use Rattle.am_timer.specs.Queue.{due_at, is_due}

-- what doesn't come after is due no earlier
no_earlier : (a b : ℕ) (rest : Ordering) → is_gt (ordering_then (nat_cmp a b) rest) ≡ false → a ≤ b
no_earlier a b rest h = grind (arith, nat_tests)

late_too : (now a b : ℕ) → a ≤ b → nat_le a now ≡ false → nat_le b now ≡ false
late_too now a b le h = grind (arith, nat_tests)

-- where the first of timers in order isn't due, none is
pub none_due : (now : ℕ) (x : Timer) (xs : List Timer) → IsStrictlySortedBy timer_cmp (x ∷ xs) → is_due now x ≡ false → due_at now (x ∷ xs) ≡ []
unfolding IsStrictlySortedBy
none_due now x xs rising late = rw late (rest xs rising.0)
  where
    rest : (ys : List Timer) → AllByRecursion (λ y. timer_cmp x y ≡ Less) ys → due_at now ys ≡ []
    rest [] h = refl
    rest (y ∷ ys) h = rw (late_too now x.due y.due (no_earlier x.due y.due (name_cmp x.name y.name) (ap is_gt h.0)) late) (rest ys h.1)

-- one more that is due is listed
pub listed_next : (now : ℕ) (listed rest was all : List Timer) (x own : Timer) → was ≡ x ∷ rest → own ≡ x → is_due now x ≡ true → listed ++ due_at now was ≡ all → (listed ++ own ∷ []) ++ due_at now rest ≡ all
listed_next now listed rest was all x own split same due so_far =
    append_assoc listed (own ∷ []) (due_at now rest)
    ∙ ap (λ y. listed ++ y ∷ due_at now rest) same
    ∙ ap (λ ys. listed ++ ys) (sym (ap (due_at now) split ∙ taken)) ∙ so_far
  where
    taken : due_at now (x ∷ rest) ≡ x ∷ due_at now rest
    taken = rw due refl

-- what is left of timers in order is in order
pub rising_next : (rest was : List Timer) (x : Timer) → was ≡ x ∷ rest → IsStrictlySortedBy timer_cmp was → IsStrictlySortedBy timer_cmp rest
unfolding IsStrictlySortedBy
rising_next rest was x split rising = (rw split at rising).1

-- where the next isn't due, all that is due is listed
pub all_listed : (now : ℕ) (listed rest was all : List Timer) (x : Timer) → was ≡ x ∷ rest → IsStrictlySortedBy timer_cmp was → is_due now x ≡ false → listed ++ due_at now was ≡ all → listed ≡ all
all_listed now listed rest was all x split rising late so_far =
    sym (append-nil listed) ∙ ap (λ ys. listed ++ ys) (sym (ap (due_at now) split ∙ none_due now x rest (rw split at rising) late)) ∙ so_far
